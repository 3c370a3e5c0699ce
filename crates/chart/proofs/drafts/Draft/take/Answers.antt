use Rattle.std.proofs.Common.{◌+◌, ◌≤◌, add-one, arith}
use Rattle.chart.proofs.Changing.{taken_kept, taken, crowded, full}
use Rattle.chart.proofs.Starting.{kept_ready}
use Rattle.chart.proofs.drafts.Draft.take.Goals as goal

pub fill-requires-clause-ready : goal.fill-requires-clause-ready
fill-requires-clause-ready c = kept_ready _ _ _ c.self.invariant (omega (arith, c.from-held.ensures, c.if-held-ge-MOST_WORDS.false))

pub invariant_of-self : goal.invariant_of-self
invariant_of-self c =
    taken_kept c.self.inside.settled c.args.word c.self.inside.board c.fill.new.board c.self.invariant c.in-Ok.record (c.self.inside.settled.held + 1) c.from-held.result _ c.from-held.ensures (add-one c.self.inside.settled.held) c.in-Ok.ensures

pub returns-in-Ok : goal.returns-in-Ok
returns-in-Ok c =
    let few : c.self.inside.settled.held + 1 ≤ 100 = omega (arith, c.from-held.ensures, c.if-held-ge-MOST_WORDS.false) in
    taken c.self.inside.settled c.args.word c.self.inside.board c.fill.new.board c.self.invariant c.in-Ok.record (c.self.inside.settled.held + 1) c.from-held.result few c.from-held.ensures (add-one c.self.inside.settled.held) c.in-Ok.ensures _ c.self.view_is

pub returns-in-Err : goal.returns-in-Err
returns-in-Err c = crowded c.self.inside.settled c.args.word c.self.inside.board c.fill.new.board c.cut.new.self c.self.invariant c.in-Err.ensures c.cut.ensures c.from-held.result _ c.from-held.ensures (omega (arith, c.if-held-ge-MOST_WORDS.false)) c.self.view_is

pub returns-then-held-ge-MOST_WORDS : goal.returns-then-held-ge-MOST_WORDS
returns-then-held-ge-MOST_WORDS c = full c.self.inside.settled c.args.word c.self.inside.board c.self.invariant c.from-held.result _ c.from-held.ensures c.if-held-ge-MOST_WORDS.true c.self.view_is

use Rattle.std.proofs.Common.{ap}
use Rattle.std.proofs.lemmas.Result.{MatchResult-weaker}
use Rattle.soundbook.specs.Sounds.{sound_meaning}
use Rattle.soundbook.proofs.Plain.{plain}
use Rattle.reading.specs.Machines.{not_allowed, grammar_of, first_of, state_of}
use Rattle.reading.proofs.Moving.{step_none, leads_on, stops}
use Rattle.reading.proofs.machines.Machine.reduce.Goals as goal

pub returns-then-not-may_reduce-clause-moved : goal.returns-then-not-may_reduce-clause-moved
returns-then-not-may_reduce-clause-moved g c =
    let m = c.args.self.now in
    not_allowed (step_none (grammar_of m) (state_of g.W.Word.tells m c.args.second.now c.args.third.now) c.args.rule c.requires c.if-not-may_reduce.ensures)

pub returns-clause-moved : goal.returns-clause-moved
returns-clause-moved g c =
    let m = c.args.self.now in
    let r = c.args.rule in
    let same = ap (λ b. (sound_meaning b.now).grammar) c.pop.ensures.book in
    let es = first_of g.W.Word.tells m in
    let fs = first_of g.W.Word.tells c.pop.new.self in
    let second = c.args.second.now in
    let third = c.args.third.now in
    let test = c.if-not-may_reduce.ensures in
    MatchResult-weaker c.begin.result c.begin.ensures.pushed
    (λ _ b. leads_on (grammar_of m) _ same r c.args.at c.requires es fs second c.begin.new.second third c.begin.new.third test c.pop.ensures.first b)
    (λ f b. stops (grammar_of m) _ same r c.args.at c.requires es fs second second third third test f (plain _ m.book.now.sound) b)

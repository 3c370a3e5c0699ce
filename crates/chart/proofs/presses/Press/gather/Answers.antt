use Rattle.std.proofs.Common.{◌≡◌, sym, subst, arith}
use Rattle.language.specs.Book.{Numbered}
use Rattle.chart.specs.Records.{grammar_of, used_of}
use Rattle.chart.specs.declared.items.Item.{Item}
use Rattle.chart.proofs.Arranging.{Gathered, gathered_none, gathered_all}
use Rattle.chart.proofs.Entering.{bounds}
use Rattle.chart.proofs.presses.Press.gather.Goals as goal

pub loop-at-init : goal.loop-at-init
loop-at-init c = record { from = omega (arith, c.used-at.ensures); gathered = gathered_none _ c.args.board.now _ _ (omega (arith, c.used-at.ensures)) }

pub next_corners-requires-clause-numbered : goal.next_corners-requires-clause-numbered
next_corners-requires-clause-numbered c =
    let held = c.requires.complete.items c.loop-at.at c.loop-at-test.true in
    subst (λ (t : Item). Numbered (grammar_of c.args.self.now.settled.now) t.rule) (sym c.item.ensures) (bounds _ _ c.requires.ready _ _ _ _ held).rule

pub returns : goal.returns
returns c =
    let all : c.loop-at.at ≡ c.args.board.now.top = omega (arith, c.requires.complete.begins, c.used-at.ensures) in
    gathered_all _ _ c.requires.ready c.args.board.now c.loop-at.wanted c.requires.complete
    (subst (λ n. Gathered (grammar_of c.args.self.now.settled.now) c.args.board.now (used_of c.args.self.now.settled.now) n c.loop-at.wanted) all c.loop-at.invariant.gathered)

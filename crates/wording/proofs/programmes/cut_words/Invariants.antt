use Rattle.std.proofs.Common.{◌≡◌, ◌-◌, length, vec_items}
use Rattle.wording.specs.Programmes.{WordsBefore}
use Rattle.wording.proofs.programmes.cut_words.Given as goal

abbrev pub invariant-loop-word : goal.invariant-loop-word
invariant-loop-word l =
    let t = l.fn.cutter.text.now in
    (l.cutter.text.now ≡ t) × WordsBefore t l.cutter.at (vec_items l.words)

abbrev pub decreases-loop-word : goal.decreases-loop-word
decreases-loop-word l = length l.fn.cutter.text.now - l.cutter.at

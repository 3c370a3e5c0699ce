use Rattle.std.proofs.Common.{◌<◌, ◌⊎◌, length, inl, inr, rules, subst, arith}
use Rattle.language.specs.Sound.{Letter}
use Rattle.wording.specs.Pieces.{ByteFits, IsMisfit, WordRefused}
use Rattle.std.specs.Prelude.{slice_index}
use Rattle.wording.proofs.reads.piece_of.Goals as goal
use Rattle.wording.proofs.reads.piece_of.Goals.{in_default-2-via-then-is_letter+else-word-lt25, in_default-2-via-else-is_letter+else-this-lt5}

pub returns-in-Some-misfit : goal.returns-in-Some-misfit
returns-in-Some-misfit c =
    WordRefused.byte c.in-Some-misfit.at (subst (λ b. IsMisfit b c.args.word.now c.in-Some-misfit.at) (c.in-Some.ensures.item.3.1 0) c.in-Some-misfit.ensures)

pub returns-in_default-2 : goal.returns-in_default-2
returns-in_default-2 c =
    let first = c.in-Some.ensures.item.3.1 0 in
    WordRefused.long
    (λ i l. subst (λ b. ByteFits b (slice_index c.args.word.now i)) first (c.in_default-misfit.ensures i l))
    (subst (λ b. (Letter b × (24 < length c.args.word.now)) ⊎ ((Letter b → ⊥) × (4 < length c.args.word.now))) first
    (elim c.in_default-2.branch [ in_default-2-via-then-is_letter+else-word-lt25 w ↦ inl (search rules, omega arith) | in_default-2-via-else-is_letter+else-this-lt5 w ↦ inr (search rules, omega arith) ]))

use Rattle.std.proofs.Common.{◌≡◌, ℕ, ◌-◌, ◌*◌, List}
use Rattle.std.specs.List.{range_with_len, flat_map}
use Rattle.booktext.specs.Written.{put, Makes}
use Rattle.booktext.proofs.writes.set_lines.Given as goal

abbrev pub invariant-loop-number : goal.invariant-loop-number
invariant-loop-number g l =
    (f : ℕ → List ℕ)
    → Makes (λ n made. (b : _) × goal.F-post g l.line b n made × (b.now ≡ l.book)) f
    → l.space ≡ put l.initial.space (34 * l.top) (flat_map f (range_with_len l.numbers.start (l.number - l.numbers.start)))

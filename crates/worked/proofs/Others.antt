-- The worked examples of presses, of Book B and of the two unsound books.
use Rattle.std.proofs.Common.{◌≡◌, ℕ, zero, suc, ◌<◌, [], ◌∷◌, refl, arith}
use Rattle.language.specs.Book.{Part, Numbered, rule, left, size, symbol}
use Rattle.language.specs.Closure.{Productive, UnitPath}
use Rattle.language.specs.Sound.{Sound}
use Rattle.language.specs.Words.{only}
use Rattle.language.specs.Readings.{none, key, part, item}
use Rattle.soundbook.specs.Works.{works}
use Rattle.draft.specs.Law.{MatchesLit, PressAccepts, PressRefuses}
use Rattle.draft.proofs.Answering.{not_both}
use Rattle.draft.proofs.Showing.{items_over}
use Rattle.rulebook.specs.declared.faults.Fault.TheVariants.{DarkWord, ChartFull, Unproductive, UnitCycle}
use Rattle.soundbook.specs.Refusals.{Refused}
use Rattle.worked.specs.Books.{book_a, letters_b, book_b, endless, circular, pressed}
use Rattle.worked.specs.Examples.{FirstMoves}
use Rattle.worked.proofs.Shown.{matches_none, matches}
use Rattle.worked.proofs.Sound.{sound_test, well_formed_test, productive_test, all_productive_test}
use Rattle.worked.proofs.Computed.{tests, first_moves}
use Rattle.worked.proofs.BookA.{sound_a, one_held, three_held, four_held}

pub one_dark : (places : ℕ) → PressRefuses book_a places (pressed (33 ∷ [])) (only 34) (DarkWord 1)
unfolding tests
one_dark places = PressRefuses.dark (omega arith) (matches_none works sound_a (pressed (33 ∷ [])) (only 34) (35 ∷ []) one_held.lit refl)

-- the fourth word matches the key that is lit after the third
fourth_matches : MatchesLit book_a (pressed (33 ∷ 35 ∷ 34 ∷ [])) (only 35)
unfolding tests
fourth_matches = matches works sound_a (pressed (33 ∷ 35 ∷ 34 ∷ [])) (only 35) (35 ∷ []) 35 three_held.lit refl refl

pub four_crowded : PressRefuses book_a 7 (pressed (33 ∷ 35 ∷ 34 ∷ [])) (only 35) (ChartFull 3)
four_crowded =
    let more : 7 < 8 = omega arith in
    PressRefuses.crowded (omega arith) fourth_matches (λ fit. not_both works sound_a 7 _ fit (record { items = item 3 1 0 1 ∷ item 3 2 0 2 ∷ item 1 1 0 2 ∷ item 2 1 0 2 ∷ item 4 1 2 3 ∷ item 4 2 2 4 ∷ item 2 2 0 4 ∷ item 2 1 0 4 ∷ []; held = four_held.items.held; apart = four_held.items.apart; more = more }))

pub four_taken : PressAccepts book_a 8 (pressed (33 ∷ 35 ∷ 34 ∷ [])) (only 35)
four_taken = record { room = omega arith; matches = fourth_matches; fits = record { items = _; over = items_over works sound_a _ _ four_held.items; few = omega arith } }

pub sound_b : Sound letters_b
unfolding tests
sound_b = sound_test letters_b ((33 ∷ []) ∷ []) refl refl refl

pub b_moves : FirstMoves book_b (pressed (33 ∷ 33 ∷ 33 ∷ [])) (1 ∷ 0 ∷ 2 ∷ 1 ∷ 0 ∷ 2 ∷ 1 ∷ 0 ∷ 129 ∷ 0 ∷ 129 ∷ 0 ∷ 129 ∷ [])
unfolding tests
b_moves =
    first_moves letters_b sound_b (pressed (33 ∷ 33 ∷ 33 ∷ []))
    (item 1 1 0 1 ∷ item 2 1 0 1 ∷ item 1 1 1 2 ∷ item 2 1 1 2 ∷ item 2 2 0 2 ∷ item 2 1 0 2 ∷ item 1 1 2 3 ∷ item 2 1 2 3 ∷ item 2 2 1 3 ∷ item 2 2 0 3 ∷ item 2 1 1 3 ∷ item 2 1 0 3 ∷ [])
    ((1 ∷ 33 ∷ []) ∷ (1 ∷ 33 ∷ []) ∷ (1 ∷ 33 ∷ []) ∷ (1 ∷ 33 ∷ []) ∷ []) [] refl
    2 (part (part none 1 (key none 33)) 2 (part (part none 1 (key none 33)) 1 (key none 33))) refl

-- of the endless book, the rules of part 2 begin with part 2
again : (r : ℕ) → Numbered endless.grammar r → left endless.grammar r ≡ 2 → (0 < size endless.grammar r) × (symbol endless.grammar r 0 ≡ 2)
unfolding rule
again zero n e = absurd (omega (arith, n.low))
again (suc zero) n e = absurd (omega (arith, e))
again (suc (suc zero)) n e = absurd (omega (arith, e))
again (suc (suc (suc zero))) n e = (omega arith, refl)
again (suc (suc (suc (suc r)))) n e = absurd (omega (arith, n.high))

never : (X : ℕ) → Productive endless.grammar X → X ≡ 2 → ⊥
never _ (Productive.key c k) e = omega (arith, k.low)
never _ (Productive.part r n kids) e = never (symbol endless.grammar r 0) (kids 0 (again r n e).0) (again r n e).1

pub endless_refused : Refused endless (Unproductive 2)
unfolding tests
endless_refused = Refused.unproductive (well_formed_test endless refl) (record {
  part = record { low = omega arith; high = omega arith };
  before = before;
  fails = λ p. never 2 p refl;
})
  where
    before : (q : ℕ) → q < 2 → Part endless.grammar q → Productive endless.grammar q
    before zero l p = absurd (omega (arith, p.low))
    before (suc zero) l p = productive_test endless.grammar 1 refl
    before (suc (suc q)) l p = absurd (omega arith)

-- 1 turns into 2, and 2 into 1
round : UnitPath circular.grammar 1 1
unfolding rule
round = UnitPath.more 2 (record { low = omega arith; high = omega arith }) refl (UnitPath.one 1 (record { low = omega arith; high = omega arith }) refl refl)

pub circular_refused : Refused circular (UnitCycle 1)
unfolding tests
circular_refused = Refused.cyclic (well_formed_test circular refl) (all_productive_test circular.grammar refl) (record {
  part = record { low = omega arith; high = omega arith };
  before = λ q l p. absurd (omega (arith, p.low));
  fails = λ f. f round;
})

-- The drafts of the worked examples are lawful, and a press there has one answer.
use Rattle.std.proofs.Common.{◌≡◌, ℕ, zero, suc, ◌+◌, ◌-◌, ◌^◌, ◌<◌, ◌≤◌, Bool, true, false, ◌&&◌, ◌||◌, IsTrue, ◌↔◌, eqb, leb, List, [], ◌∷◌, ◌++◌, map, length, get_or, replicate, refl, sym, ap, ◌∙◌, subst, ⊎_elim, le_refl, arith, length-append}
use Rattle.std.specs.Prelude.{Result, Ok, Err}
use mathlib.Core.Path.{fun_ext}
use Rattle.std.proofs.Math.Seq.{take-append_seam}
use Rattle.std.proofs.lemmas.List.{length-map, length-take-le, length-replicate, get_or_append_left, get_or-append_right, get_or-replicate}
use Rattle.std.specs.Int.Bits.{or_zero_l}
use Rattle.std.proofs.lemmas.Bool.{and_parts, and_left, and_right, leb-true, eq-eqb, ne_eqb, cases_Bool, cases_eq, false≢true}
use Rattle.language.specs.Masks.{bit}
use Rattle.language.specs.Book.{Grammar}
use Rattle.language.specs.Words.{Word, only}
use Rattle.language.specs.Readings.{Item, Programme}
use Rattle.language.specs.Columns.{Among, Apart}
use Rattle.language.proofs.Masks.{bit_set, bit_none}
use Rattle.language.proofs.Members.{among_get}
use Rattle.language.proofs.Pigeonhole.{no_more}
use Rattle.language.proofs.Chart.Theorem.{chart_theorem}
use Rattle.rulebook.specs.Sets.{holds, has, symbolic}
use Rattle.rulebook.specs.declared.sets.SymbolSet.{SymbolSet}
use Rattle.rulebook.specs.declared.faults.Fault.{Fault}
use Rattle.rulebook.specs.declared.faults.Fault.TheVariants.{DarkWord, ChartFull}
use Rattle.soundbook.specs.Sounds.{sound_meaning}
use Rattle.soundbook.specs.Works.{works}
use Rattle.soundbook.specs.declared.sounds.SoundBook.{SoundBook}
use Rattle.chart.specs.Items.{blank_told}
use Rattle.draft.specs.States.{DraftState, grammar, words, place, in_use}
use Rattle.draft.specs.Law.{MayFollow, ItemsOver, IsLawful, PressAccepts, PressRefuses, full, dark, crowded}
use Rattle.draft.proofs.Showing.{items_over}
use Rattle.worked.specs.Books.{book_a, pressed}
use Rattle.worked.specs.Examples.{Shows}
use Rattle.worked.specs.Presses.{alone, short_draft, PressResult, PressExamples}
use Rattle.worked.proofs.Check.{every, every_member}
use Rattle.worked.proofs.BookA.{sound_a, one, three, four, one_held, one_short, three_held, three_short, four_held}
use Rattle.worked.proofs.Others.{one_dark, four_crowded, four_taken}

-- the set of a symbol alone is the word that matches it alone
alone_only : (c : ℕ) → symbolic c ≡ true → has (alone c) ≡ only c
unfolding holds
alone_only c s = fun_ext (λ x. ⊎_elim
    (λ e. ap (λ y. symbolic y && bit (2 ^ (c - 1)) (y - 1)) e ∙ (rw s (bits (c - 1) ∙ ap (λ t. t || bit 0 (c - 1)) (eq-eqb (c - 1) (c - 1) refl)) ∙ sym (eq-eqb x c e)))
    (λ apart. other x apart ∙ sym (ne_eqb x c apart))
    (cases_eq x c))
  where
    bits : (k : ℕ) → bit (2 ^ (c - 1)) k ≡ (eqb (c - 1) k || bit 0 k)
    bits k = subst (λ m. bit m k ≡ (eqb (c - 1) k || bit 0 k)) (or_zero_l (2 ^ (c - 1))) (bit_set 0 (c - 1) k)

    other : (x : ℕ) → (x ≡ c → ⊥) → (symbolic x && bit (2 ^ (c - 1)) (x - 1)) ≡ false
    other x apart = ⊎_elim
        (λ t.
        let low : 1 ≤ x = leb-true 1 x (and_parts _ _ t).0 in
        let low_c : 1 ≤ c = leb-true 1 c (and_parts _ _ s).0 in
        and_right (symbolic x) _ (bits (x - 1) ∙ (ap (λ t. t || bit 0 (x - 1)) (ne_eqb (c - 1) (x - 1) (λ e. apart (omega (arith, e, low, low_c)))) ∙ bit_none (x - 1))))
        (λ f. and_left (symbolic x) _ f)
        (cases_Bool (symbolic x))

alone_pressed : (keys : List ℕ) → every symbolic keys ≡ true → map (λ (s : SymbolSet). has s) (map alone keys) ≡ pressed keys
unfolding every
alone_pressed [] h = refl
alone_pressed (c ∷ keys) h =
    let p = and_parts (symbolic c) (every symbolic keys) h in
    ap (λ w. w ∷ map (λ (s : SymbolSet). has s) (map alone keys)) (alone_only c p.0) ∙ ap (λ ws. only c ∷ ws) (alone_pressed keys p.1)

-- no item ends before an earlier one of the list
unfoldable rising : List Item → Bool
rising [] = true
rising (t ∷ ts) = every (λ (u : Item). leb t.end u.end) ts && rising ts

rising_at : (ts : List Item) (p q : ℕ) → rising ts ≡ true → p ≤ q → q < length ts → (get_or ts p blank_told).end ≤ (get_or ts q blank_told).end
unfolding rising
rising_at [] p q h l n = absurd (omega (arith, n))
rising_at (t ∷ ts) zero zero h l n = le_refl t.end
rising_at (t ∷ ts) zero (suc q) h l n =
    leb-true t.end (get_or ts q blank_told).end (every_member (λ (u : Item). leb t.end u.end) ts (get_or ts q blank_told) (and_parts (every (λ (u : Item). leb t.end u.end) ts) (rising ts) h).0 (among_get ts q blank_told (omega (arith, n))))
rising_at (t ∷ ts) (suc p) zero h l n = absurd (omega (arith, l))
rising_at (t ∷ ts) (suc p) (suc q) h l n = rising_at ts p q (and_parts (every (λ (u : Item). leb t.end u.end) ts) (rising ts) h).1 (omega (arith, l)) (omega (arith, n))

-- a press is refused for one fault, or accepted
module _ (g : Grammar) (n : ℕ) (ws : List Word) (w : Word) where
  not_accepted : (f : Fault) → PressRefuses g n ws w f → PressAccepts g n ws w → ⊥
  not_accepted _ (full many) a = omega (arith, many, a.room)
  not_accepted _ (dark room none) a = none a.matches
  not_accepted _ (crowded room match over) a = over a.fits

  one_fault : (f f' : Fault) → PressRefuses g n ws w f → PressRefuses g n ws w f' → f ≡ f'
  one_fault _ _ (full many) (full _) = refl
  one_fault _ _ (full many) (dark room _) = absurd (omega (arith, many, room))
  one_fault _ _ (full many) (crowded room _ _) = absurd (omega (arith, many, room))
  one_fault _ _ (dark room _) (full many) = absurd (omega (arith, many, room))
  one_fault _ _ (dark _ _) (dark _ _) = refl
  one_fault _ _ (dark _ none) (crowded _ match _) = absurd (none match)
  one_fault _ _ (crowded room _ _) (full many) = absurd (omega (arith, many, room))
  one_fault _ _ (crowded _ match _) (dark _ none) = absurd (none match)
  one_fault _ _ (crowded _ _ _) (crowded _ _ _) = refl

-- two lists of the items over the same words are equally long
same_length : (g : Grammar) (ws : List Word) (ts us : List Item) → ItemsOver g ws ts → ItemsOver g ws us → length ts ≡ length us
same_length g ws ts us p q = omega (arith, no_more ts us p.apart (λ t m. (q.exact t).1 ((p.exact t).0 m)), no_more us ts q.apart (λ t m. (p.exact t).1 ((q.exact t).0 m)))

module _ (b : SoundBook) (means : sound_meaning b ≡ works) (keys : List ℕ) (symbols : every symbolic keys ≡ true) (items : List Item) (blanks : ℕ) (lit : List ℕ) where
  abbrev d : DraftState
  d = short_draft b keys items blanks lit

  words_are : words d ≡ pressed keys
  words_are = alone_pressed keys symbols

  -- what holds of Book A and of the words holds of the draft
  of_draft : (P : Grammar → List Word → Type 0) → P book_a (pressed keys) → P (grammar d) (words d)
  of_draft P p = subst (λ m. P m.grammar (words d)) (sym means) (subst (P book_a) (sym words_are) p)

  long : length d.places ≡ length items + blanks
  long = length-append items (replicate blanks blank_told) ∙ ap (λ n. length items + n) (length-replicate blanks blank_told)

  lawful : length keys ≤ 100 → length items + blanks ≤ 60000 → rising items ≡ true → Apart lit → Shows book_a (pressed keys) items lit → (Programme book_a (pressed keys) → ⊥) → IsLawful d
  lawful few fits up apart shows short = record {
    few = omega (arith, few, length-map (map alone keys) (λ (s : SymbolSet). has s), length-map keys alone);
    few_places = omega (arith, fits, long);
    fits = omega (arith, long);
    items = of_draft (λ g ws. ItemsOver g ws (in_use d)) (subst (ItemsOver book_a (pressed keys)) (sym (take-append_seam items (replicate blanks blank_told))) (items_over works sound_a (pressed keys) items shows.items));
    rising = λ p q l n. omega (arith, ap (λ (t : Item). t.end) (at p (omega (arith, l, n))), ap (λ (t : Item). t.end) (at q n), rising_at items p q up l n);
    blank = λ q l n. get_or-append_right items (replicate blanks blank_told) (length items) q blank_told refl l ∙ get_or-replicate blanks (q - length items) blank_told blank_told (omega (arith, l, n, long));
    lit = λ c. of_draft (λ g ws. Among c lit ↔ MayFollow g ws c) (let of_book = (chart_theorem works sound_a (pressed keys)).lit c in (λ m. of_book.0 ((shows.lit c).0 m), λ f. (shows.lit c).1 (of_book.1 f)));
    lit_apart = apart;
    whole = of_draft (λ g ws. IsTrue false ↔ Programme g ws) (λ h. absurd (false≢true h), λ p. absurd (short p));
  }
    where
      at : (q : ℕ) → q < length items → place d q ≡ get_or items q blank_told
      at q n = get_or_append_left items (replicate blanks blank_told) blank_told q n

  -- what a press of key c answers and leaves
  module _ (c : ℕ) (new : DraftState) where
    of_law : (P : Grammar → ℕ → List Word → Type 0) → P book_a (length items + blanks) (pressed keys) → P (grammar d) (length d.places) (words d)
    of_law P p = of_draft (λ g ws. P g (length d.places) ws) (subst (λ n. P book_a n (pressed keys)) (sym long) p)

    refused : (f : Fault) → PressRefuses book_a (length items + blanks) (pressed keys) (only c) f → (r : Result ℕ Fault) → PressResult c d new r → (r ≡ Err f) × (new ≡ d)
    refused f refuses (Ok n) p = absurd (not_accepted _ _ _ _ f (of_law (λ g n ws. PressRefuses g n ws (only c) f) refuses) p.cases.taken)
    refused f refuses (Err e) p = (ap Err (one_fault _ _ _ _ e f p.cases.refused (of_law (λ g n ws. PressRefuses g n ws (only c) f) refuses)), p.cases.same)

    taken : PressAccepts book_a (length items + blanks) (pressed keys) (only c) → (more : List Item) → ItemsOver book_a (pressed keys ++ (only c ∷ [])) more → (r : Result ℕ Fault) → PressResult c d new r → r ≡ Ok (length more)
    taken accepts more over (Ok n) p = ap Ok (p.cases.answer ∙ (sym (length-take-le new.used new.places p.lawful.fits) ∙ same_length book_a (pressed keys ++ (only c ∷ [])) (in_use new) more stand over))
      where
        stand : ItemsOver book_a (pressed keys ++ (only c ∷ [])) (in_use new)
        stand = subst (λ m. ItemsOver m.grammar (pressed keys ++ (only c ∷ [])) (in_use new)) (ap sound_meaning p.cases.same.book ∙ means)
            (subst (λ ws. ItemsOver (grammar new) ws (in_use new)) (p.cases.words ∙ ap (λ ws. ws ++ (only c ∷ [])) words_are) p.lawful.items)
    taken accepts more over (Err e) p = absurd (not_accepted _ _ _ _ e p.cases.refused (of_law (λ g n ws. PressAccepts g n ws (only c)) accepts))

pub press_examples : (b : SoundBook) → sound_meaning b ≡ works → PressExamples b
unfolding every rising
press_examples b means = record {
  one_lawful = λ blanks fits. lawful b means (33 ∷ []) refl one blanks (35 ∷ []) (omega arith) fits refl (λ m. m, tt) one_held one_short;
  one_press = λ blanks new. refused b means (33 ∷ []) refl one blanks (35 ∷ []) 34 new (DarkWord 1) (one_dark (1 + blanks));
  seven_lawful = lawful b means (33 ∷ 35 ∷ 34 ∷ []) refl three 2 (35 ∷ []) (omega arith) (omega arith) refl (λ m. m, tt) three_held three_short;
  seven_press = λ new. refused b means (33 ∷ 35 ∷ 34 ∷ []) refl three 2 (35 ∷ []) 35 new (ChartFull 3) four_crowded;
  eight_lawful = lawful b means (33 ∷ 35 ∷ 34 ∷ []) refl three 3 (35 ∷ []) (omega arith) (omega arith) refl (λ m. m, tt) three_held three_short;
  eight_press = λ new. taken b means (33 ∷ 35 ∷ 34 ∷ []) refl three 3 (35 ∷ []) 35 new four_taken four (items_over works sound_a (pressed (33 ∷ 35 ∷ 34 ∷ 35 ∷ [])) four four_held.items);
}

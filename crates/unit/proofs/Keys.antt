-- A pressed key is the word that matches it alone.
use Rattle.std.proofs.Common.{◌≡◌, ℕ, ◌&&◌, ◌==◌, Bool, true, false, T, IsTrue, List, [], ◌∷◌, ◌++◌, length, refl, sym, ap, ◌∙◌, subst, arith}
use mathlib.Core.Path.{fun_ext}
use Rattle.std.proofs.lemmas.Bool.{and_from, and_parts, eqb-true, le-leb}
use Rattle.std.proofs.lemmas.Float.{T_from_true}
use Rattle.std.proofs.lemmas.List.{length-take-le}
use Rattle.language.specs.Book.{Grammar}
use Rattle.language.specs.Sound.{Sound}
use Rattle.language.specs.Words.{Word, only}
use Rattle.language.proofs.Chart.Theorem.{chart_theorem}
use Rattle.language.proofs.Known.{sound_known}
use Rattle.rulebook.specs.Sets.{key_number}
use Rattle.rulebook.specs.declared.faults.Fault.{Fault}
use Rattle.rulebook.specs.declared.faults.Fault.TheVariants.{ChartFull}
use Rattle.soundbook.specs.Sounds.{sound_meaning}
use Rattle.soundbook.specs.declared.sounds.SoundBook.{SoundBook}
use Rattle.wording.specs.Sets.{word_of}
use Rattle.draft.specs.declared.lit_set.LitSet.{LitSet}
use Rattle.draft.specs.Law.{MayFollow, MatchesLit, PressAccepts, PressRefuses, full, dark, crowded, IsLawful, PressTaken, LitIs}
use Rattle.draft.specs.States.{DraftState, grammar, words, in_use}
use Rattle.unit.specs.Presses.{IsAnswer}
use Rattle.unit.specs.Steps.{IsKeyPress}

true_from_T : (b : Bool) → T b → IsTrue b
true_from_T true h = refl
true_from_T false h = absurd h

and_same : (a b : Bool) → (IsTrue b → IsTrue a) → (a && b) ≡ b
and_same true b h = refl
and_same false true h = h refl
and_same false false h = refl

-- a number that some key has
same_word : (key : ℕ) → IsTrue (key_number key) → word_of (only key) ≡ only key
same_word key number = fun_ext (λ c. and_same (key_number c) (c == key) (λ h. subst (λ x. IsTrue (key_number x)) (sym (eqb-true c key h)) number))

match_number : (g : Grammar) (ws : List Word) (key : ℕ) → MatchesLit g ws (word_of (only key)) → IsTrue (key_number key)
match_number g ws key m =
    let parts = and_parts (key_number m.key) (m.key == key) (true_from_T _ m.matches) in
    subst (λ x. IsTrue (key_number x)) (eqb-true m.key key parts.1) parts.0

-- a key that may follow has such a number
follow_number : (b : SoundBook) (ws : List Word) (c : ℕ) → MayFollow (sound_meaning b).grammar ws c → IsTrue (key_number c)
follow_number b ws c follows =
    let sound : Sound (sound_meaning b) = sound_known (sound_meaning b) b.sound in
    let lit = ((chart_theorem (sound_meaning b) sound ws).lit c).1 follows in
    and_from _ _ (le-leb 33 c lit.key.low) (le-leb c 64 (omega (arith, lit.key.high, sound.formed.counts.few_keys)))

pub refused_only : (b : SoundBook) (n : ℕ) (ws : List Word) (key : ℕ) (f : Fault) → PressRefuses (sound_meaning b).grammar n ws (word_of (only key)) f → PressRefuses (sound_meaning b).grammar n ws (only key) f
refused_only b n ws key _ (full many) = full many
refused_only b n ws key _ (dark few none) =
    dark few (λ m. none (record { key = m.key; follows = m.follows; matches = T_from_true _ (and_from _ _ (follow_number b ws m.key m.follows) (true_from_T _ m.matches)) }))
refused_only b n ws key _ (crowded few m none) =
    subst (λ w. PressRefuses (sound_meaning b).grammar n ws w (ChartFull (length ws))) (same_word key (match_number (sound_meaning b).grammar ws key m)) (crowded few m none)

-- what a press that is taken, and the lit keys after it, answer
pub key_pressed : (old new : DraftState) (key n : ℕ) (l : LitSet) → PressTaken old new (word_of (only key)) n → IsLawful new → LitIs new l → IsKeyPress old new key (record { items = n; lit = l.count })
key_pressed old new key n l taken lawful lit =
    let word = same_word key (match_number (grammar old) (words old) key taken.taken.matches) in
    let book : grammar new ≡ grammar old = ap (λ (b : SoundBook). (sound_meaning b).grammar) taken.same.book in
    record {
      accepted = subst (PressAccepts (grammar old) (length old.places) (words old)) word taken.taken;
      words = taken.words ∙ ap (λ w. words old ++ (w ∷ [])) word;
      same = taken.same;
      answer = subst (λ g. IsAnswer g (words new) (record { items = n; lit = l.count })) book (record {
        items = in_use new;
        over = lawful.items;
        many_items = taken.answer ∙ sym (length-take-le new.used new.places lawful.fits);
        keys = new.lit;
        follow = lawful.lit;
        apart = lawful.lit_apart;
        many_keys = lit.count;
      });
    }

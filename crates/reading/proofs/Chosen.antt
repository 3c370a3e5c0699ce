-- The choice found by the items is that of a first reading.
use Rattle.std.proofs.Common.{◌≡◌, ℕ, ◌+◌, ◌≤◌, List, length, Option, Some, None, MatchOption, refl, sym, ◌∙◌, subst, arith}
use Rattle.std.specs.Option.{unwrap_or}
use Rattle.language.specs.Book.{Grammar, left, size, symbol}
use Rattle.language.specs.Words.{Word, between}
use Rattle.language.specs.Readings.{Children, part, yield, count, Reads}
use Rattle.language.specs.Chart.{Wanted, Held}
use Rattle.language.specs.Choice.{LowestHeld}
use Rattle.language.specs.Order.{Least}
use Rattle.language.proofs.Known.{sound_known}
use Rattle.language.proofs.Chart.Proper.{sound_proper}
use Rattle.soundbook.specs.Sounds.{sound_meaning}
use Rattle.soundbook.specs.declared.sounds.SoundBook.{SoundBook}
use Rattle.reading.specs.Choices.{BeginFirst, ChoosesFirst, Finishes, FirstChildren, LowestRule}
use Rattle.reading.proofs.Fronts.{first_children, part_reads, part_least, part_wanted}

-- what is known of a first reading
abbrev pub FirstKnown : (g : Grammar) (ws : List Word) (X i k : ℕ) → Reads g X (between i k ws) → Type 0
FirstKnown g ws X i k t =
    FirstChildren g ws t.reading.by i t.reading.children
    × (i + length (yield t.reading.children) ≡ k)
    × Held g ws t.reading.by (size g t.reading.by) i k
    × LowestHeld g ws t.reading.by i k

pub first_known : (book : SoundBook) (g : Grammar) → (sound_meaning book).grammar ≡ g → (ws : List Word) → (X i k : ℕ) → Wanted g ws i X → k ≤ length ws → (t : Reads g X (between i k ws)) → Least t → FirstKnown g ws X i k t
first_known book g same ws =
    subst (λ h. (X i k : ℕ) → Wanted h ws i X → k ≤ length ws → (t : Reads h X (between i k ws)) → Least t → FirstKnown h ws X i k t) same
    (first_children (sound_meaning book) (sound_known (sound_meaning book) book.sound) ws)

module _ (book : SoundBook) (g : Grammar) (same : (sound_meaning book).grammar ≡ g) (ws : List Word) (X i k : ℕ) where
  -- the rule that was found is that of a first reading
  is_rule : (found : Option ℕ) → MatchOption found ((q : ℕ) → Finishes g ws X i k q → ⊥) (LowestRule g ws X i k)
      → (r : ℕ) → left g r ≡ X → Held g ws r (size g r) i k → LowestHeld g ws r i k → unwrap_or found 0 ≡ r
  is_rule None nothing r heads held lowest = absurd (nothing r (record { heads = heads; held = held }))
  is_rule (Some q) is r heads held lowest =
      omega (arith, is.lowest r (record { heads = heads; held = held }), lowest q (is.finishes.heads ∙ sym heads) is.finishes.held)

  pub chosen : (found : Option ℕ) → MatchOption found ((q : ℕ) → Finishes g ws X i k q → ⊥) (LowestRule g ws X i k)
      → (r : ℕ) → r ≡ unwrap_or found 0 → (at : List ℕ) → BeginFirst g ws r i k at → ChoosesFirst g ws X i k (record { rule = r; begins = at })
  chosen found lowest r is at begins w short t least =
      let known = first_known book g same ws X i k w short t least in
      let rule_is : r ≡ t.reading.by = is ∙ is_rule found lowest t.reading.by t.reading.heads known.2 known.3 in
      record { rule = rule_is; begins = subst (λ q. BeginFirst g ws q i k at) rule_is begins t.reading.children known.0 t.reading.whole known.1 }

-- a part that is the last of the children: its own reading is the first of its words
pub record PartFirst (g : Grammar) (ws : List Word) (r i : ℕ) (ks : Children) (s : ℕ) (cs : Children) : Type 0 where
  pub wanted : Wanted g ws (i + length (yield ks)) (symbol g r (count ks))
  pub reads : Reads g (symbol g r (count ks)) (between (i + length (yield ks)) (i + length (yield (part ks s cs))) ws)
  pub by : reads.reading.by ≡ s
  pub children : reads.reading.children ≡ cs
  pub least : Least reads

pub part_first : (book : SoundBook) (g : Grammar) → (sound_meaning book).grammar ≡ g → (ws : List Word) → (r i : ℕ) (ks : Children) (s : ℕ) (cs : Children) → FirstChildren g ws r i (part ks s cs) → PartFirst g ws r i ks s cs
part_first book g same ws =
    let m = sound_meaning book in
    let sound = sound_known m book.sound in
    let proper = sound_proper m sound in
    subst (λ h. (r i : ℕ) (ks : Children) (s : ℕ) (cs : Children) → FirstChildren h ws r i (part ks s cs) → PartFirst h ws r i ks s cs) same
    (λ r i ks s cs f. record {
      wanted = part_wanted m.grammar proper ws r i ks s cs f;
      reads = part_reads m.grammar proper ws r i ks s cs f;
      by = refl;
      children = refl;
      least = part_least m sound ws r i ks s cs f;
    })

-- What is known of the first reading of the words held.
use Rattle.std.proofs.Common.{◌≡◌, ℕ, ◌+◌, ◌-◌, ◌*◌, ◌<◌, ◌≤◌, List, [], ◌∷◌, ◌++◌, length, take, drop, sym, refl, ap, ◌∙◌, subst, arith, length-append}
use Rattle.std.proofs.Math.Option.{some}
use Rattle.std.proofs.lemmas.List.{append_assoc}
use Rattle.language.specs.Book.{Grammar}
use Rattle.language.specs.Words.{Word}
use Rattle.language.specs.Readings.{yield, Reads, Programme}
use Rattle.language.specs.Chart.{first, self}
use Rattle.language.specs.Depth.{Deep}
use Rattle.language.specs.Machine.{State, steps, initial}
use Rattle.language.specs.Moves.{moves, inner, rules, MovesAre}
use Rattle.language.specs.Order.{First, Least}
use Rattle.language.proofs.Known.{sound_known}
use Rattle.language.proofs.Chart.Between.{between_all}
use Rattle.language.proofs.Moves.Depth.{depth_theorem}
use Rattle.language.proofs.Moves.Theorem.{moves_theorem}
use Rattle.language.proofs.Order.First.{first_theorem}
use Rattle.soundbook.specs.Sounds.{sound_meaning}
use Rattle.soundbook.specs.declared.sounds.SoundBook.{SoundBook}
use Rattle.draft.specs.Law.{IsLawful}
use Rattle.draft.specs.States.{DraftState, grammar, words}
use Rattle.rulebook.specs.declared.faults.Fault.TheVariants.{NotWhole, StripShort}
use Rattle.reading.specs.Walks.{OpenIs, OpensFirst, Owed}
use Rattle.reading.specs.Written.{moves_of, rules_of, inner_of, ReadingWritten, ReadingRefused, Rooted}
use Rattle.reading.specs.declared.walks.Open.{Open}

-- what a sound book's grammar has for its programmes
pub record Programmes (g : Grammar) (ws : List Word) : Type 0 where
  pub exists : Programme g ws → First g g.start ws
  pub known : (t : Programme g ws) → MovesAre g ws t
  pub deep : (t : Programme g ws) (k : ℕ) (s : State) → steps g (some (initial g ws)) (take k (moves t.reading.by t.reading.children)) ≡ some s → Deep s (rules t.reading)

pub programmes : (book : SoundBook) (ws : List Word) → Programmes (sound_meaning book).grammar ws
programmes book ws =
    let m = sound_meaning book in
    let sound = sound_known m book.sound in
    record {
      exists = (first_theorem m sound m.grammar.start ws).exists;
      known = moves_theorem m sound ws;
      deep = depth_theorem m sound ws;
    }

-- how long the moves are
moves_long : (g : Grammar) (ws : List Word) (t : First g g.start ws) → length (moves_of t) ≡ length (inner_of t) + 2
moves_long g ws t = length-append (inner_of t) (0 ∷ 129 ∷ [])

-- the rule of the whole reading is opened: its children's moves are owed
root : (g : Grammar) (ws : List Word) (X n : ℕ) (top : Open) → X ≡ g.start → n ≡ length ws → OpensFirst g ws X 0 n top → (t : First g g.start ws) → Owed g ws (top ∷ []) (inner_of t)
root g ws X n top start many opens t = record {
  end = 0 + length (yield t.reads.reading.children);
  pending = (0, t.reads.reading.children, [], (refl, refl), opened.1, refl, ap (λ r. inner r t.reads.reading.children) (sym opened.0));
  inside = omega (arith, t.reads.is.long);
}
  where
    there : OpensFirst g ws g.start 0 (length ws) top
    there = subst (λ Y. OpensFirst g ws Y 0 (length ws) top) start (subst (λ k. OpensFirst g ws X 0 k top) many opens)

    opened : (top.choice.rule ≡ t.reads.reading.by) × OpenIs g ws top 0 t.reads.reading.children
    opened = subst (λ us. (u : Reads g g.start us) → Least u → (top.choice.rule ≡ u.reading.by) × OpenIs g ws top 0 u.reading.children) (between_all ws) (there (first g.start self) (omega arith)) t.reads t.least

-- the words held are a programme, whose first reading is opened
pub rooted : (d : DraftState) → IsLawful d → Programme (grammar d) (words d) → (X n held : ℕ) (top : Open)
    → X ≡ (grammar d).start → n ≡ length (words d) → held ≡ n → OpensFirst (grammar d) (words d) X 0 n top → Rooted (grammar d) (words d) top held
rooted d lawful programme X n held top start many is opens =
    let ws = words d in
    let p = programmes d.book ws in
    let t = p.exists programme in
    record {
      first = t;
      owed = root (grammar d) ws X n top start many opens t;
      words = is ∙ many;
      few_words = lawful.few;
      known = p.known t.reads;
      deep = p.deep t.reads;
    }

-- or they are none
pub refused_whole : (g : Grammar) (ws : List Word) → (places k : ℕ) → k ≡ length ws → (Programme g ws → ⊥) → ReadingRefused g ws places (NotWhole k)
refused_whole g ws places k words none = subst (λ n. ReadingRefused g ws places (NotWhole n)) (sym words) (ReadingRefused.not_whole none)

module _ (g : Grammar) (ws : List Word) (top : Open) (held : ℕ) (r : Rooted g ws top held) where
  abbrev t : First g g.start ws
  t = r.first

  -- there are few moves, and no fewer than words
  pub few_moves : length (inner_of r.first) + 2 ≤ 12836
  few_moves = omega (arith, moves_long g ws t, r.known.few_moves r.few_words)

  pub some_moves : held ≤ length (inner_of r.first) + 2
  some_moves = omega (arith, r.words, moves_long g ws t, r.known.many)

  module _ (n : ℕ) (many : n ≡ length (inner_of r.first) + 2) where
    -- so many rules, as the moves past the words tell
    threefold : 1 + 3 * (n - held) ≡ 1 + 6 * rules_of t
    threefold = omega (arith, many, r.words, moves_long g ws t, r.known.many)

    long : n ≡ length (moves_of t)
    long = many ∙ sym (moves_long g ws t)

    pub written : (old new : List ℕ) → n ≤ length old → new ≡ inner_of r.first ++ (0 ∷ 129 ∷ drop n old) → ReadingWritten g ws old new (record { moves = n; depth = 1 + 3 * (n - held) })
    written old new room is = record {
      first = t;
      fits = omega (arith, long, room);
      strip = is ∙ (ap (λ j. inner_of t ++ (0 ∷ 129 ∷ drop j old)) long ∙ sym (append_assoc (inner_of t) (0 ∷ 129 ∷ []) (drop (length (moves_of t)) old)));
      many = long;
      exact = long ∙ r.known.many;
      deep = λ j s led. omega (arith, (r.deep j s led).second, threefold);
      not_deeper = omega (arith, threefold);
      accepted = λ room second third. record {
        run = r.known.run;
        fit = λ j s led. let d = r.deep j s led in record { second = omega (arith, d.second, second, threefold); third = omega (arith, d.third, third) };
      };
    }

    pub refused_short : (places : ℕ) → places < n → ReadingRefused g ws places (StripShort held)
    refused_short places less = subst (λ k. ReadingRefused g ws places (StripShort k)) (sym r.words) (ReadingRefused.short t (omega (arith, long, less)))

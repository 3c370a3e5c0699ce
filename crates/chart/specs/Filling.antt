-- How the column of a word that is being pressed is filled.
use Rattle.std.specs.Prelude.{◌≡◌, ℕ, suc, ◌<◌, ◌≤◌, true}
use Rattle.language.specs.Book.{Grammar, Key, Numbered, left, size, symbol}
use Rattle.language.specs.Chart.{Corner, Wanted, Held, Spans}
use Rattle.chart.specs.Overflow.{Outnumber}
use Rattle.rulebook.specs.Sets.{has}
use Rattle.wording.specs.declared.pressed.Matched.{Matched}
use Rattle.chart.specs.Boards.{Extends, at_place, is_marked}
use Rattle.chart.specs.Items.{entry}
use Rattle.chart.specs.Marks.{Small, marked, parts_at}
use Rattle.chart.specs.Starts.{has_start}
use Rattle.chart.specs.Records.{grammar_of, words_with, record_of, used_of}
use Rattle.chart.specs.declared.items.Item.{Item}
use Rattle.chart.specs.declared.boards.Board.{Board}
use Rattle.chart.specs.declared.marks.Parts.{Parts}
use Rattle.chart.specs.declared.records.Record.{Record}
use Rattle.chart.specs.declared.records.Settled.{Settled}
use Rattle.chart.specs.declared.starts.StartSet.{StartSet}

-- the item stands at one of the places from the first to before the last
pub record Standing (b : Board) (from past : ℕ) (t : Item) : Type 0 where
  pub place : ℕ
  pub low : from ≤ place
  pub high : place < past
  pub is : at_place b place ≡ t

-- the starts of the unfinished items of a column are among those that its record names
abbrev pub Started : Board → Record → Type 0
Started b r = (q : ℕ) → r.from ≤ q → q < r.waiting → has_start r.starts (at_place b q).start ≡ true

-- the next symbol of an unfinished item has the left corner Y
pub record NextCorner (g : Grammar) (t : Item) (Y : ℕ) : Type 0 where
  pub unfinished : t.done < size g t.rule
  pub corner : Corner g (symbol g t.rule t.done) Y

module _ (s : Settled) (w : Matched) where
  -- the item is one over the words held and the new word
  abbrev pub HeldHere : Item → Type 0
  HeldHere t = Held (grammar_of s) (words_with s w) t.rule t.done t.start t.end

  -- the symbol spans to the new word
  abbrev pub SpansHere : ℕ → ℕ → Type 0
  SpansHere X i = Spans (grammar_of s) (words_with s w) X i (suc s.held)

  -- an unfinished item of an earlier word stands among those that wait after that word
  abbrev pub Waits : Board → ℕ → ℕ → ℕ → ℕ → Type 0
  Waits b r d i j = Standing b (record_of s j).from (record_of s j).waiting (entry r d i j)

  -- what holds while the column is filled: all in use are items, each stands once, the new ones from where the others end,
  -- and the marks tell which these are; those that wait are where the records say, and start where these say
  pub record Filling (b : Board) : Type 0 where
    pub begins : used_of s ≤ b.top
    pub items : (q : ℕ) → q < b.top → HeldHere (at_place b q)
    pub apart : (p q : ℕ) → p < q → q < b.top → at_place b p ≡ at_place b q → ⊥
    pub column : (q : ℕ) → used_of s ≤ q → q < b.top → (at_place b q).end ≡ suc s.held
    pub earlier : (q : ℕ) → q < used_of s → (at_place b q).end ≤ s.held
    pub stands : (r d i : ℕ) → Small r d i → i ≤ s.held → marked b.marks r d i ≡ true → Standing b (used_of s) b.top (entry r d i (suc s.held))
    pub marks : (q : ℕ) → used_of s ≤ q → q < b.top → is_marked b (at_place b q) ≡ true
    pub waiting : (r d i j : ℕ) → j ≤ s.held → Held (grammar_of s) (words_with s w) r d i j → d < size (grammar_of s) r → Waits b r d i j
    pub columns : (j q : ℕ) → 1 ≤ j → j ≤ s.held → (record_of s j).from ≤ q → q < (record_of s j).waiting → (q < used_of s) × ((at_place b q).end ≡ j)
    pub starts : (j : ℕ) → 1 ≤ j → j ≤ s.held → Started b (record_of s j)

  -- one step of it
  pub record Filled (old new : Board) : Type 0 where
    pub filling : Filling new
    pub extends : Extends old new

  -- the items outnumber the places, and only places that were not in use are written
  pub record Overfull (old new : Board) : Type 0 where
    pub extends : Extends old new
    pub more : Outnumber (grammar_of s) old.limit (words_with s w)

  -- rule r is begun where it may start after word i
  abbrev pub RuleBegun : Board → ℕ → ℕ → Type 0
  RuleBegun b r i = Wanted (grammar_of s) (words_with s w) i (left (grammar_of s) r) → marked b.marks r 1 i ≡ true

  -- so is every rule with that first symbol
  abbrev pub AllBegun : Board → ℕ → ℕ → Type 0
  AllBegun b X i = (r : ℕ) → Numbered (grammar_of s) r → symbol (grammar_of s) r 0 ≡ X → RuleBegun b r i

  -- the item is advanced if its next symbol is X
  abbrev pub ItemAdvanced : Board → Item → ℕ → Type 0
  ItemAdvanced b t X = symbol (grammar_of s) t.rule t.done ≡ X → marked b.marks t.rule (suc t.done) t.start ≡ true

  -- every rule with X at place d that starts after one of the starts is advanced past it
  abbrev pub AdvancedAt : Board → ℕ → StartSet → ℕ → Type 0
  AdvancedAt b X starts d = (r i : ℕ) → Numbered (grammar_of s) r → symbol (grammar_of s) r d ≡ X → has_start starts i ≡ true → marked b.marks r (suc d) i ≡ true

  -- every item that ends at word j and has X next is advanced
  abbrev pub AllAdvanced : Board → ℕ → ℕ → Type 0
  AllAdvanced b X j = (r d i : ℕ) → Held (grammar_of s) (words_with s w) r d i j → d < size (grammar_of s) r → symbol (grammar_of s) r d ≡ X → marked b.marks r (suc d) i ≡ true

  -- all that follows from a symbol that spans from after word j is entered
  pub record SpanDone (b : Board) (X j : ℕ) : Type 0 where
    pub begun : AllBegun b X j
    pub advanced : AllAdvanced b X j

  -- if the new word matches the key, all that follows from it is entered
  abbrev pub KeyDone : Board → ℕ → Type 0
  KeyDone b c = has w.keys c ≡ true → SpanDone b c s.held

  -- the same for all keys
  abbrev pub KeysDone : Board → Type 0
  KeysDone b = (c : ℕ) → Key (grammar_of s) c → KeyDone b c

  -- all that follows from the parts that are known to span is entered
  abbrev pub PartsDone : Board → Parts → Type 0
  PartsDone b p = (X i : ℕ) → i ≤ s.held → has (parts_at p i) X ≡ true → SpanDone b X i

  -- if the item is finished, its left side is known to span
  abbrev pub Followed : Parts → Item → Type 0
  Followed p t = t.done ≡ size (grammar_of s) t.rule → has (parts_at p t.start) (left (grammar_of s) t.rule) ≡ true

  -- an item is followed up, and what was known stays
  pub record FollowedUp (b : Board) (old new : Parts) (t : Item) : Type 0 where
    pub done : PartsDone b new
    pub kept : (X i : ℕ) → has (parts_at old i) X ≡ true → has (parts_at new i) X ≡ true
    pub followed : Followed new t

  -- every item that ends at the new word stands behind those of the words before
  abbrev pub AllStand : Board → Type 0
  AllStand b = (r d i : ℕ) → Held (grammar_of s) (words_with s w) r d i (suc s.held) → Standing b (used_of s) b.top (entry r d i (suc s.held))

  -- the column is filled: all in use are items, each once, and every item of the new word is among them
  pub record Complete (b : Board) : Type 0 where
    pub begins : used_of s ≤ b.top
    pub items : (q : ℕ) → q < b.top → HeldHere (at_place b q)
    pub apart : (p q : ℕ) → p < q → q < b.top → at_place b p ≡ at_place b q → ⊥
    pub column : (q : ℕ) → used_of s ≤ q → q < b.top → (at_place b q).end ≡ suc s.held
    pub all : AllStand b

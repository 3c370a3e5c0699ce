-- What is found in a text.
use Rattle.std.specs.Prelude.{◌≡◌, ℕ, ◌*◌, Bool, cond, ◌⊎◌, List, ◌++◌, length, take, sum_by, codes, decimal, IsTrue, ◌↔◌}
use Rattle.language.specs.Book.{Rule, Meaning}
use Rattle.language.specs.Sound.{Sound}
use Rattle.lines.specs.Columns.{told_fault}
use Rattle.rulebook.specs.Sentences.{sentence_of}
use Rattle.rulebook.specs.declared.faults.Fault.{Fault}
use Rattle.soundbook.specs.Refusals.{CheckRefuses}
use Rattle.booktext.specs.Form.{AllYes, FirstNo, questions}
use Rattle.booktext.specs.Text.{text_meaning}
use Rattle.booktext.specs.Written.{lines_in, text_of, Stands}
use Rattle.bookreport.specs.declared.examination.Findings.{Findings}

-- how many symbols the right sides of rules have
abbrev pub symbols_in : List Rule → ℕ
symbols_in rs = sum_by (λ (w : Rule). length w.body) rs

-- the text is in form and its book is sound
pub record Accepted (t : List ℕ) : Type 0 where
  pub formed : AllYes (questions t)
  pub long : length t ≡ 34 * lines_in (text_meaning t)
  pub sound : Sound (text_meaning t)

-- the first question answered no is one of the text, or else one of its book, and then no other refusal of the book fits
abbrev pub TextRefused : List ℕ → Fault → Type 0
TextRefused t f = FirstNo (questions t) f ⊎ (AllYes (questions t) × CheckRefuses (text_meaning t) f)

-- every key has one form, as in every make of book
abbrev pub EachForm : Meaning → Type 0
EachForm m = length m.forms ≡ m.grammar.keys

-- texts and books are turned into each other without loss
pub record RoundTrips : Type 0 where
  -- the book of a text in form is written as that text
  pub back : (t : List ℕ) → AllYes (questions t) → text_of (text_meaning t) ≡ t
  -- the text of a sound book is in form, and means that book
  pub formed : (m : Meaning) → Sound m → AllYes (questions (text_of m))
  pub again : (m : Meaning) → Sound m → EachForm m → text_meaning (text_of m) ≡ m

-- the counts found are those of the book
pub record CountsFound (m : Meaning) (d : Findings) : Type 0 where
  pub parts : d.parts ≡ m.grammar.parts
  pub keys : d.keys ≡ m.grammar.keys
  pub start : d.start ≡ m.grammar.start
  pub rules : d.rules ≡ length m.grammar.rules
  pub symbols : d.symbols ≡ symbols_in m.grammar.rules

-- the findings in the text t: the counts of its book, and whether that is written back as t
pub record Found (t : List ℕ) (d : Findings) : Type 0 where
  pub counts : CountsFound (text_meaning t) d
  pub back : IsTrue d.same ↔ (text_of (text_meaning t) ≡ t)

-- the book of t is written back into a space: the first bytes are t itself, those past them are as they were
pub record WrittenBack (t was is : List ℕ) : Type 0 where
  pub stands : Stands (text_meaning t) was is (length t)
  pub same : take (length t) is ≡ t

-- how the book was written back
abbrev pub told_back : Bool → List ℕ
told_back same = cond same (codes "written back byte for byte\n") (codes "written back otherwise than it was read\n")

-- what is said of findings, up to how the book was written back
abbrev pub told_with : Findings → List ℕ → List ℕ
told_with d back =
    codes "sound book\nparts " ++ (decimal d.parts ++ (codes ", keys " ++ (decimal d.keys ++ (codes ", start " ++ (decimal d.start ++ (codes "\nrules " ++ (decimal d.rules ++ (codes ", symbols " ++ (decimal d.symbols ++ (codes "\n" ++ back))))))))))

-- what is said of findings
abbrev pub told_findings : Findings → List ℕ
told_findings d = told_with d (told_back d.same)

-- what is said of a refusal: the line of its four numbers, and its sentence
abbrev pub ToldRefusal : Fault → List ℕ → Type 0
ToldRefusal f s = s ≡ told_fault f ++ (sentence_of f ++ codes "\n")

-- what is said of a text: the findings in its sound book, which is written back byte for byte, or the refusal
abbrev pub Told : List ℕ → List ℕ → Type 0
Told t s = (Accepted t × ((d : Findings) × Found t d × IsTrue d.same × (s ≡ told_findings d))) ⊎ ((f : Fault) × TextRefused t f × ToldRefusal f s)

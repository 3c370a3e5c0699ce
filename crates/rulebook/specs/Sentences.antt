-- What is said of a refusal, in a sentence.
use Rattle.std.specs.Prelude.{ℕ, List, ◌++◌, ◌==◌, if◌then◌else◌, codes, decimal}
use Rattle.rulebook.specs.declared.faults.Fault.{Fault}
use Rattle.rulebook.specs.declared.faults.Fault.TheVariants.{TextLength, LineMark, FieldForm, KeyNumber, LineCount, SpaceShort, ProgrammeLength, WordByte, WordLength, Counts, LeftSide, EmptyRule, LongRule, UnknownSymbol, KeyForm, Unproductive, UnitCycle, DraftFull, DarkWord, ChartFull, NothingHeld, NotWhole, StripShort, MoveRefused, StacksLeft, StackFull}

-- what a line holds in a column that is no part of its fields: its letter in column 1, else its newline
abbrev pub mark_words : ℕ → List ℕ
mark_words c = (if c == 1 then codes "the letter of the line" else codes "a newline")

-- what went wrong, and where
abbrev pub sentence_of : Fault → List ℕ
sentence_of TextLength = codes "the text is empty, too long, or not 34 bytes for each line"
sentence_of (LineMark l c) = codes "line " ++ decimal l ++ codes ": column " ++ decimal c ++ codes " does not hold " ++ mark_words c
sentence_of (FieldForm l c) = codes "line " ++ decimal l ++ codes ": the field at column " ++ decimal c ++ codes " is out of form"
sentence_of (KeyNumber l) = codes "line " ++ decimal l ++ codes ": the key number is not 32 plus the place of the line among the key lines"
sentence_of LineCount = codes "line 1: the number of lines is not 1 + rules + keys"
sentence_of SpaceShort = codes "the text cannot be written back"
sentence_of ProgrammeLength = codes "the programme is too long"
sentence_of (WordByte b) = codes "byte " ++ decimal b ++ codes " does not fit the first byte of its word"
sentence_of (WordLength b) = codes "byte " ++ decimal b ++ codes ": the word is too long"
sentence_of Counts = codes "a book has 1 to 32 parts, 1 to 32 keys, a start among its parts and 1 to 128 rules"
sentence_of (LeftSide r) = codes "rule " ++ decimal r ++ codes ": the left side is not a part"
sentence_of (EmptyRule r) = codes "rule " ++ decimal r ++ codes ": the right side is empty"
sentence_of (LongRule r) = codes "rule " ++ decimal r ++ codes ": the right side has more than 6 symbols"
sentence_of (UnknownSymbol r p) = codes "rule " ++ decimal r ++ codes ": symbol " ++ decimal p ++ codes " is neither a part nor a key"
sentence_of (KeyForm k) = codes "key " ++ decimal k ++ codes ": the kind and the spelling do not go together"
sentence_of (Unproductive p) = codes "part " ++ decimal p ++ codes " cannot be turned into keys alone"
sentence_of (UnitCycle p) = codes "part " ++ decimal p ++ codes " is turned into itself alone by rules of length 1"
sentence_of (DraftFull h) = decimal h ++ codes " words are held, and no more fit"
sentence_of (DarkWord h) = codes "after " ++ decimal h ++ codes " words: the word matches no lit key"
sentence_of (ChartFull h) = codes "after " ++ decimal h ++ codes " words: the chart has too few places"
sentence_of (NothingHeld h) = codes "no word is held"
sentence_of (NotWhole h) = codes "the " ++ decimal h ++ codes " words held are not a programme"
sentence_of (StripShort h) = codes "the strip is too short for a reading of the " ++ decimal h ++ codes " words held"
sentence_of (MoveRefused m) = codes "move " ++ decimal m ++ codes " is not allowed"
sentence_of (StacksLeft m) = codes "after " ++ decimal m ++ codes " moves the stacks are not empty"
sentence_of (StackFull m) = codes "move " ++ decimal m ++ codes ": a stack is full"

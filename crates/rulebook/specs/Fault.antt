-- The four numbers of a refusal: its number, its layer and its two places.
use Rattle.std.specs.Prelude.{ℕ}
use Rattle.rulebook.specs.declared.faults.Fault.{Fault}
use Rattle.rulebook.specs.declared.faults.Fault.TheVariants.{TextLength, LineMark, FieldForm, KeyNumber, LineCount, SpaceShort, ProgrammeLength, WordByte, WordLength, Counts, LeftSide, EmptyRule, LongRule, UnknownSymbol, KeyForm, Unproductive, UnitCycle, DraftFull, DarkWord, ChartFull, NothingHeld, NotWhole, StripShort, MoveRefused, StacksLeft, StackFull}

-- the number by which it is known
abbrev pub number_of : Fault → ℕ
number_of TextLength = 1
number_of (LineMark l c) = 2
number_of (FieldForm l c) = 3
number_of (KeyNumber l) = 4
number_of LineCount = 5
number_of SpaceShort = 6
number_of ProgrammeLength = 41
number_of (WordByte b) = 42
number_of (WordLength b) = 43
number_of Counts = 11
number_of (LeftSide r) = 12
number_of (EmptyRule r) = 13
number_of (LongRule r) = 14
number_of (UnknownSymbol r p) = 15
number_of (KeyForm k) = 16
number_of (Unproductive p) = 17
number_of (UnitCycle p) = 18
number_of (DraftFull h) = 21
number_of (DarkWord h) = 22
number_of (ChartFull h) = 23
number_of (NothingHeld h) = 24
number_of (NotWhole h) = 25
number_of (StripShort h) = 26
number_of (MoveRefused m) = 31
number_of (StacksLeft m) = 32
number_of (StackFull m) = 33

-- the layer that refused: 1 text, 2 book, 3 draft, 4 replay
abbrev pub layer_of : Fault → ℕ
layer_of TextLength = 1
layer_of (LineMark l c) = 1
layer_of (FieldForm l c) = 1
layer_of (KeyNumber l) = 1
layer_of LineCount = 1
layer_of SpaceShort = 1
layer_of ProgrammeLength = 1
layer_of (WordByte b) = 1
layer_of (WordLength b) = 1
layer_of Counts = 2
layer_of (LeftSide r) = 2
layer_of (EmptyRule r) = 2
layer_of (LongRule r) = 2
layer_of (UnknownSymbol r p) = 2
layer_of (KeyForm k) = 2
layer_of (Unproductive p) = 2
layer_of (UnitCycle p) = 2
layer_of (DraftFull h) = 3
layer_of (DarkWord h) = 3
layer_of (ChartFull h) = 3
layer_of (NothingHeld h) = 3
layer_of (NotWhole h) = 3
layer_of (StripShort h) = 3
layer_of (MoveRefused m) = 4
layer_of (StacksLeft m) = 4
layer_of (StackFull m) = 4

-- the first place number
abbrev pub first_of : Fault → ℕ
first_of TextLength = 0
first_of (LineMark l c) = l
first_of (FieldForm l c) = l
first_of (KeyNumber l) = l
first_of LineCount = 1
first_of SpaceShort = 0
first_of ProgrammeLength = 0
first_of (WordByte b) = b
first_of (WordLength b) = b
first_of Counts = 0
first_of (LeftSide r) = r
first_of (EmptyRule r) = r
first_of (LongRule r) = r
first_of (UnknownSymbol r p) = r
first_of (KeyForm k) = k
first_of (Unproductive p) = p
first_of (UnitCycle p) = p
first_of (DraftFull h) = h
first_of (DarkWord h) = h
first_of (ChartFull h) = h
first_of (NothingHeld h) = h
first_of (NotWhole h) = h
first_of (StripShort h) = h
first_of (MoveRefused m) = m
first_of (StacksLeft m) = m
first_of (StackFull m) = m

-- the second place number
abbrev pub second_of : Fault → ℕ
second_of TextLength = 0
second_of (LineMark l c) = c
second_of (FieldForm l c) = c
second_of (KeyNumber l) = 2
second_of LineCount = 0
second_of SpaceShort = 0
second_of ProgrammeLength = 0
second_of (WordByte b) = 0
second_of (WordLength b) = 0
second_of Counts = 0
second_of (LeftSide r) = 0
second_of (EmptyRule r) = 0
second_of (LongRule r) = 0
second_of (UnknownSymbol r p) = p
second_of (KeyForm k) = 0
second_of (Unproductive p) = 0
second_of (UnitCycle p) = 0
second_of (DraftFull h) = 0
second_of (DarkWord h) = 0
second_of (ChartFull h) = 0
second_of (NothingHeld h) = 0
second_of (NotWhole h) = 0
second_of (StripShort h) = 0
second_of (MoveRefused m) = 0
second_of (StacksLeft m) = 0
second_of (StackFull m) = 0

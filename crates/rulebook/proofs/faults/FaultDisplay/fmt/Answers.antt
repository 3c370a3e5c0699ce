use Rattle.std.proofs.Common.{◌≡◌, ℕ, List, ◌++◌, codes, decimal, rules, append_assoc, ap, sym, ◌∙◌}
use Rattle.std.proofs.Output.{has_written_of_eq}
use Rattle.rulebook.specs.Sentences.{mark_words, sentence_of}
use Rattle.rulebook.specs.declared.faults.Fault.TheVariants.{LineMark}
use Rattle.rulebook.proofs.faults.FaultDisplay.fmt.Goals as goal

pub returns-in-FieldForm-clause-writes : goal.returns-in-FieldForm-clause-writes
returns-in-FieldForm-clause-writes g c = search (rules, append_assoc, c.in-FieldForm.is, c.write-in-FieldForm.ensures.writes)

pub returns-in-UnknownSymbol-clause-writes : goal.returns-in-UnknownSymbol-clause-writes
returns-in-UnknownSymbol-clause-writes g c = search (rules, append_assoc, c.in-UnknownSymbol.is, c.write-in-UnknownSymbol.ensures.writes)

pub returns-in-WordByte-clause-writes : goal.returns-in-WordByte-clause-writes
returns-in-WordByte-clause-writes g c = rw c.in-WordByte.is c.write-in-WordByte.ensures.writes

pub returns-in-UnitCycle-clause-writes : goal.returns-in-UnitCycle-clause-writes
returns-in-UnitCycle-clause-writes g c = rw c.in-UnitCycle.is c.write-in-UnitCycle.ensures.writes

pub returns-in-DraftFull-clause-writes : goal.returns-in-DraftFull-clause-writes
returns-in-DraftFull-clause-writes g c = rw c.in-DraftFull.is c.write-in-DraftFull.ensures.writes

pub returns-in-DarkWord-clause-writes : goal.returns-in-DarkWord-clause-writes
returns-in-DarkWord-clause-writes g c = rw c.in-DarkWord.is c.write-in-DarkWord.ensures.writes

pub returns-in-ChartFull-clause-writes : goal.returns-in-ChartFull-clause-writes
returns-in-ChartFull-clause-writes g c = rw c.in-ChartFull.is c.write-in-ChartFull.ensures.writes

pub returns-in-NotWhole-clause-writes : goal.returns-in-NotWhole-clause-writes
returns-in-NotWhole-clause-writes g c = rw c.in-NotWhole.is c.write-in-NotWhole.ensures.writes

pub returns-in-MoveRefused-clause-writes : goal.returns-in-MoveRefused-clause-writes
returns-in-MoveRefused-clause-writes g c = rw c.in-MoveRefused.is c.write-in-MoveRefused.ensures.writes

pub returns-in-StacksLeft-clause-writes : goal.returns-in-StacksLeft-clause-writes
returns-in-StacksLeft-clause-writes g c = rw c.in-StacksLeft.is c.write-in-StacksLeft.ensures.writes

pub returns-in-StackFull-clause-writes : goal.returns-in-StackFull-clause-writes
returns-in-StackFull-clause-writes g c = rw c.in-StackFull.is c.write-in-StackFull.ensures.writes

line_mark : (l c : ℕ) (w : List ℕ) → w ≡ mark_words c → (codes "line " ++ (decimal l ++ (codes ": column " ++ (decimal c ++ (codes " does not hold " ++ w))))) ≡ sentence_of (LineMark l c)
line_mark l c w e = search (rules, append_assoc, e)

pub returns-in-LineMark-clause-writes : goal.returns-in-LineMark-clause-writes
returns-in-LineMark-clause-writes g c p o =
    has_written_of_eq _ _ _ _ _ (line_mark _ _ _ c.mark_words-wanted.ensures ∙ ap sentence_of (sym c.in-LineMark.is)) (c.write-in-LineMark.ensures.writes p o)

use Rattle.std.proofs.lemmas.Bool.Decides.{same_from_decides}
use Rattle.std.proofs.Math.Logic.{∥∥₁_map}
use Rattle.soundbook.proofs.Deriving.{few_keys}
use Rattle.wording.proofs.Spelling.{piece_decides}
use Rattle.wording.proofs.spelled.SpelledWord.matches.Goals as goal

pub returns-clause-set : goal.returns-clause-set
returns-clause-set c = same_from_decides _ _ c.piece_fits.ensures (piece_decides _ (few_keys _ (∥∥₁_map c.args.self.now.book.now.sound (λ s. s.formed))) _ _)

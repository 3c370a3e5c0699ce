use Rattle.std.proofs.Common.{rules, refl}
use Rattle.soundbook.proofs.Copying.{keys_read}
use Rattle.soundbook.proofs.copies.Source.keys.Goals as goal

pub returns : goal.returns
returns g c = keys_read c.args.self.now.counted _ _ c.filled.result c.filled.ensures refl (λ i x l r. search rules) (λ i f l r. search rules)

use Rattle.std.proofs.Common.{rules}
use Rattle.soundbook.proofs.Copying.{key_read}
use Rattle.soundbook.proofs.copies.Source.key.Goals as goal

pub returns : goal.returns
returns g c =
    key_read _ _ (record { kind = c.in_ok-kind.kind; spelling = c.in_ok-spelling.spelling }) c.in_ok-spelling.ensures (λ i x l r. search rules) (search rules) c.spelling_len-len.ensures (c.length_fits.ensures.0 c.if-not-length_fits.false)

use Rattle.wording.proofs.Spelling.{key_placed, name_piece}
use Rattle.wording.proofs.spelled.piece_fits.Goals as goal

pub returns-in-Name : goal.returns-in-Name
returns-in-Name g c =
    name_piece _ _ _ _ _ c.in-Name.is (key_placed _ _ _ _ _ c.keys.ensures.count c.place_of.ensures c.if-is_none.ensures) c.name_matches.ensures

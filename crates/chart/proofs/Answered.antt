-- What follows from an answer, for either kind of answer.
use Rattle.std.specs.Prelude.{Result, Ok, Err, MatchResult}

pub match_map : {T E : Type 0} {P P' : T → Type 0} {Q Q' : E → Type 0} (r : Result T E) → ((v : T) → P v → P' v) → ((e : E) → Q e → Q' e) → MatchResult r P Q → MatchResult r P' Q'
match_map (Ok v) f g h = f v h
match_map (Err e) f g h = g e h

-- What the tests of the machine say, and when they pass.
use Rattle.std.proofs.Common.{◌≡◌, ℕ, ◌+◌, true, length}
use Rattle.std.proofs.lemmas.Bool.{and_parts, and_from, leb-true, le-leb}
use Rattle.language.specs.Book.{Grammar, Key, Numbered}
use Rattle.language.specs.Machine.{is_key, is_rule}

pub key_test : (g : Grammar) (c : ℕ) → is_key g c ≡ true → Key g c
key_test g c h = let p = and_parts _ _ h in record { low = leb-true 33 c p.0; high = leb-true c (32 + g.keys) p.1 }

pub test_key : (g : Grammar) (c : ℕ) → Key g c → is_key g c ≡ true
test_key g c k = and_from _ _ (le-leb 33 c k.low) (le-leb c (32 + g.keys) k.high)

pub rule_test : (g : Grammar) (r : ℕ) → is_rule g r ≡ true → Numbered g r
rule_test g r h = let p = and_parts _ _ h in record { low = leb-true 1 r p.0; high = leb-true r (length g.rules) p.1 }

pub test_rule : (g : Grammar) (r : ℕ) → Numbered g r → is_rule g r ≡ true
test_rule g r n = and_from _ _ (le-leb 1 r n.low) (le-leb r (length g.rules) n.high)

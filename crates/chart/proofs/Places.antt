-- What is known of each place, said of the list of items.
use Rattle.std.proofs.Common.{◌≡◌, ℕ, suc, ◌<◌, List, [], ◌∷◌, map, length, get_or, sym, ap, inl, inr, arith}
use Rattle.std.specs.List.{AllByRecursion}
use Rattle.language.specs.Readings.{Item as Told}
use Rattle.language.specs.Columns.{Among, Apart}
use Rattle.language.proofs.Members.{among_map, among_get}
use Rattle.chart.specs.Items.{blank_item, told}
use Rattle.chart.specs.declared.items.Item.{Item}

-- what is told of two items alike is told of one item
pub told_once : (t u : Item) → told t ≡ told u → t ≡ u
told_once t u e = ap (λ (x : Told). record { rule = x.rule; done = x.done; start = x.start; end = x.end }) e

-- a property of each place is one of all items
pub all_at : (P : Told → Type 0) (xs : List Item) → ((q : ℕ) → q < length xs → P (told (get_or xs q blank_item))) → AllByRecursion P (map told xs)
all_at P [] h = tt
all_at P (x ∷ xs) h = (h 0 (omega arith), all_at P xs (λ q l. h (suc q) (omega arith)))

-- what is told of an item at a place is in the list of what is told
pub among_at : (xs : List Item) (q : ℕ) → q < length xs → Among (told (get_or xs q blank_item)) (map told xs)
among_at xs q l = among_map told (get_or xs q blank_item) xs (among_get xs q blank_item l)

-- and an item in the list is at a place
pub record Found (xs : List Item) (t : Told) : Type 0 where
  pub place : ℕ
  pub inside : place < length xs
  pub is : told (get_or xs place blank_item) ≡ t

pub found_among : (xs : List Item) (t : Told) → Among t (map told xs) → Found xs t
found_among [] t m = absurd m
found_among (x ∷ xs) t (inl e) = record { place = 0; inside = omega arith; is = sym e }
found_among (x ∷ xs) t (inr m) = let f = found_among xs t m in record { place = suc f.place; inside = omega (arith, f.inside); is = f.is }

-- items that differ from place to place stand once each
pub apart_at : (xs : List Item) → ((p q : ℕ) → p < q → q < length xs → get_or xs p blank_item ≡ get_or xs q blank_item → ⊥) → Apart (map told xs)
apart_at [] h = tt
apart_at (x ∷ xs) h = (
  λ m. let f = found_among xs (told x) m in h 0 (suc f.place) (omega arith) (omega (arith, f.inside)) (told_once x _ (sym f.is)),
  apart_at xs (λ p q l k. h (suc p) (suc q) (omega arith) (omega arith)),
)

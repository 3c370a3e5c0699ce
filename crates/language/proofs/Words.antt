-- Lists of keys that begin with words, or are words, put together and taken apart.
use Rattle.std.proofs.Common.{◌≡◌, ℕ, zero, suc, ◌<◌, ◌≤◌, T, List, [], ◌∷◌, ◌++◌, length, get_or, take, drop, refl, ap, subst, append_assoc, append-nil, arith, length-append, length-drop}
use Rattle.language.specs.Words.{Word, blank, Begins, Is}

-- keys that are words, and keys behind them that begin with words behind those
pub begins_append : (p : List ℕ) (us : List Word) (q : List ℕ) (vs : List Word) → Is p us → Begins q vs → Begins (p ++ q) (us ++ vs)
begins_append [] [] q vs h b = b
begins_append [] (w ∷ us) q vs h b = absurd h.begins
begins_append (c ∷ p) [] q vs h b = absurd (omega (arith, h.long))
begins_append (c ∷ p) (w ∷ us) q vs h b =
    (h.begins.0, begins_append p us q vs (record { begins = h.begins.1; long = omega (arith, h.long) }) b)

-- keys that are words begin with them, whatever keys stand behind
pub is_begins : (p q : List ℕ) (us : List Word) → Is p us → Begins (p ++ q) us
is_begins p q us h = subst (Begins (p ++ q)) (append-nil us) (begins_append p us q [] h tt)

pub is_append : (p : List ℕ) (us : List Word) (q : List ℕ) (vs : List Word) → Is p us → Is q vs → Is (p ++ q) (us ++ vs)
is_append p us q vs h k = record {
  begins = begins_append p us q vs h k.begins;
  long = simp length-append (omega (arith, h.long, k.long));
}

-- the other way: keys put together begin with words, each with its own share
pub begins_front : (p q : List ℕ) (ws : List Word) → Begins (p ++ q) ws → length p ≤ length ws → Is p (take (length p) ws)
begins_front [] q ws b h = record { begins = tt; long = refl }
begins_front (c ∷ p) q [] b h = absurd (omega arith)
begins_front (c ∷ p) q (w ∷ ws) b h =
    let rest = begins_front p q ws b.1 (omega arith) in
    record { begins = (b.0, rest.begins); long = ap suc rest.long }

pub begins_back : (p q : List ℕ) (ws : List Word) → Begins (p ++ q) ws → Begins q (drop (length p) ws)
begins_back [] q ws b = b
begins_back (c ∷ p) q [] b = tt
begins_back (c ∷ p) q (w ∷ ws) b = begins_back p q ws b.1

pub is_front : (p q : List ℕ) (ws : List Word) → Is (p ++ q) ws → Is p (take (length p) ws)
is_front p q ws h = begins_front p q ws h.begins (omega (arith, simp length-append at h.long))

pub is_back : (p q : List ℕ) (ws : List Word) → Is (p ++ q) ws → Is q (drop (length p) ws)
is_back p q ws h = record {
  begins = begins_back p q ws h.begins;
  long = simp length-drop (omega (arith, simp length-append at h.long));
}

pub begins_assoc : (p q r : List ℕ) (ws : List Word) → Begins ((p ++ q) ++ r) ws → Begins (p ++ (q ++ r)) ws
begins_assoc p q r ws b = subst (λ y. Begins y ws) (append_assoc p q r) b

-- fewer words: still begun
pub begins_take : (p : List ℕ) (ws : List Word) (n : ℕ) → Begins p ws → Begins p (take n ws)
begins_take p [] zero b = tt
begins_take p [] (suc n) b = tt
begins_take p (w ∷ ws) zero b = tt
begins_take [] (w ∷ ws) (suc n) b = absurd b
begins_take (c ∷ p) (w ∷ ws) (suc n) b = (b.0, begins_take p ws n b.1)

-- a single key
pub record Single (c : ℕ) (ws : List Word) : Type 0 where
  pub word : Word
  pub is : ws ≡ word ∷ []
  pub matches : T (word c)

pub is_single : (c : ℕ) (ws : List Word) → Is (c ∷ []) ws → Single c ws
is_single c [] h = absurd (omega (arith, h.long))
is_single c (w ∷ []) h = record { word = w; is = refl; matches = h.begins.0 }
is_single c (w ∷ v ∷ ws) h = absurd (omega (arith, h.long))

pub single_is : (c : ℕ) (w : Word) → T (w c) → Is (c ∷ []) (w ∷ [])
single_is c w h = record { begins = (h, tt); long = refl }

-- a place whose word matches a key is in the words
pub matched_inside : (ws : List Word) (j c : ℕ) → T (get_or ws j blank c) → j < length ws
matched_inside [] j c h = absurd h
matched_inside (w ∷ ws) zero c h = omega arith
matched_inside (w ∷ ws) (suc j) c h = let l : j < length ws = matched_inside ws j c h in omega arith

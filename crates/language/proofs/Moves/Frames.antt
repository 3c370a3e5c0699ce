-- The stacks of the machine told as a zipper: the rules begun and not complete, innermost first, each with the children of
-- its symbols done. The keys read and the moves made are those of the children.
use Rattle.std.proofs.Common.{◌≡◌, ℕ, zero, suc, ◌<◌, ◌≤◌, true, T, List, [], ◌∷◌, ◌++◌, map, drop, sym, refl, ◌∙◌, subst, inl, inr, append_assoc, arith}
use Rattle.std.proofs.lemmas.Bool.{and_parts, eqb-true}
use Rattle.language.specs.Book.{Grammar, left, right, size, symbol}
use Rattle.language.specs.Words.{Word, Is}
use Rattle.language.specs.Readings.{Children, yield, count, Fits}
use Rattle.language.specs.Machine.{word, done, Awaited, next, end, agrees}
use Rattle.language.specs.Moves.{behind, inner}
use Rattle.language.proofs.Tests.{key_test}
use Rattle.language.proofs.Words.{is_append, single_is}
use Rattle.language.proofs.Chart.Turned.{Tree, leaves, push, push_fits, push_count, push_yield}

-- the moves of a tree of the symbol X, without the one behind it
abbrev pub tree_moves : (g : Grammar) (X : ℕ) → Tree g X → List ℕ
tree_moves g X (inl h) = []
tree_moves g X (inr t) = inner t.by t.children ++ (0 ∷ [])

-- one more child adds its own moves and the one behind it
push_moves : (g : Grammar) (X r : ℕ) (ks : Children) (t : Tree g X) → inner r (push g X ks t) ≡ inner r ks ++ (tree_moves g X t ++ (behind r (count ks) ∷ []))
push_moves g X r ks (inl h) = refl
push_moves g X r ks (inr t) = simp append_assoc

-- behind each child but the first stands 129
pub behind_later : (r d : ℕ) → 1 ≤ d → 129 ≡ behind r d
behind_later r zero h = absurd (omega arith)
behind_later r (suc d) h = refl

-- a rule that is begun and not complete, and the children of its symbols done
pub record Frame (g : Grammar) : Type 0 where
  pub rule : ℕ
  pub children : Children
  pub fits : Fits g rule children
  pub begun : 1 ≤ count children
  pub more : count children < size g rule

-- the symbol to come
abbrev pub awaited : (g : Grammar) → List (Frame g) → ℕ
awaited g [] = g.start
awaited g (f ∷ fs) = symbol g f.rule (count f.children)

-- what stands below it in the second stack
abbrev pub later : (g : Grammar) → List (Frame g) → List Awaited
later g [] = []
later g (f ∷ fs) = map next (drop (suc (count f.children)) (right g f.rule)) ++ (end ∷ next (awaited g fs) ∷ later g fs)

-- the third stack
abbrev pub lefts : (g : Grammar) → List (Frame g) → List ℕ
lefts g [] = []
lefts g (f ∷ fs) = left g f.rule ∷ lefts g fs

-- the keys read
abbrev pub read : (g : Grammar) → List (Frame g) → List ℕ
read g [] = []
read g (f ∷ fs) = read g fs ++ yield f.children

-- the moves made
abbrev pub made : (g : Grammar) → List (Frame g) → List ℕ
made g [] = []
made g (f ∷ fs) = made g fs ++ inner f.rule f.children

-- of the words ws, the keys p are those before the last words us
abbrev pub Before : List Word → List ℕ → List Word → Type 0
Before ws p us = (q : List ℕ) → Is q us → Is (p ++ q) ws

-- the moves ms on the words ws
module _ (g : Grammar) (ws : List Word) (ms : List ℕ) where
  -- a tree of the symbol X behind the keys read; the words us and the moves ns are left
  pub record Found (X : ℕ) (fs : List (Frame g)) (us : List Word) (ns : List ℕ) : Type 0 where
    pub tree : Tree g X
    pub words : Before ws (read g fs ++ leaves g X tree) us
    pub is : ms ≡ made g fs ++ (tree_moves g X tree ++ ns)

  -- some children of rule r behind the keys read; the words us and the moves ns are left
  pub record Partly (r : ℕ) (ks : Children) (fs : List (Frame g)) (us : List Word) (ns : List ℕ) : Type 0 where
    pub fits : Fits g r ks
    pub begun : 1 ≤ count ks
    pub words : Before ws (read g fs ++ yield ks) us
    pub is : ms ≡ (made g fs ++ inner r ks) ++ ns

  -- a word is a tree of each symbol that it agrees with
  pub word_found : (w : Word) (us : List Word) (fs : List (Frame g)) (ns : List ℕ) → Before ws (read g fs) (w ∷ us) → ms ≡ made g fs ++ ns
      → (X : ℕ) → agrees g (word w) X ≡ true → Found X fs us ns
  word_found w us fs ns b e X a =
      let h = and_parts _ (w X) a in
      let matches : T (w X) = subst T (sym h.1) tt in
      record {
        tree = inl (key_test g X h.0);
        words = λ q i. rw append_assoc (b (X ∷ q) (is_append (X ∷ []) (w ∷ []) q us (single_is X w matches) i));
        is = e;
      }

  -- all children of a rule, and 0, are a tree of its left side
  pub done_found : (r : ℕ) (ks : Children) (us : List Word) (fs : List (Frame g)) (ns : List ℕ) → Partly r ks fs us (0 ∷ ns) → count ks ≡ size g r
      → (X : ℕ) → agrees g (done (left g r)) X ≡ true → Found X fs us ns
  done_found r ks us fs ns p whole X a = record {
    tree = inr (record { by = r; children = ks; heads = eqb-true (left g r) X a; fits = p.fits; whole = whole });
    words = p.words;
    is = p.is ∙ simp append_assoc;
  }

  -- a tree of the symbol behind children, and the move behind it, make one more child
  pub pushed : (r n X : ℕ) (ks : Children) (us : List Word) (fs : List (Frame g)) (ns : List ℕ) (t : Tree g X)
      → Fits g r ks → count ks < size g r → symbol g r (count ks) ≡ X → n ≡ behind r (count ks)
      → Before ws (read g fs ++ (yield ks ++ leaves g X t)) us → ms ≡ made g fs ++ (inner r ks ++ (tree_moves g X t ++ (n ∷ ns)))
      → Partly r (push g X ks t) fs us ns
  pushed r n X ks us fs ns t f l s e b is = record {
    fits = push_fits g X r ks t f l s;
    begun = omega (arith, push_count g X ks t);
    words = rw (push_yield g X ks t) b;
    is = is ∙ rw e (simp (push_moves g X r ks t, append_assoc));
  }

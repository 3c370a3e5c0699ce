-- Calls made one after another on a new draft keep the law.
use Rattle.std.proofs.Common.{◌≡◌, ℕ, zero, suc, ◌<◌, ◌≤◌, Bool, List, [], ◌∷◌, ◌++◌, length, refl, sym, ap, ◌∙◌, subst, inl, inr, arith}
use Rattle.language.specs.Words.{Word}
use Rattle.language.specs.Readings.{Item}
use Rattle.rulebook.specs.declared.faults.Fault.{Fault}
use Rattle.soundbook.specs.declared.sounds.SoundBook.{SoundBook}
use Rattle.draft.specs.declared.lit_set.LitSet.{LitSet}
use Rattle.draft.specs.Law.{IsLawful, IsNew, SameChart}
use Rattle.draft.specs.States.{DraftState}
use Rattle.reading.specs.declared.readings.Written.{Written}
use Rattle.dialogue.specs.declared.calls.Call.{Call}
use Rattle.dialogue.specs.declared.calls.Call.TheVariants.{Press, RubOut, Lit, Whole, Reading}
use Rattle.dialogue.specs.declared.calls.Answer.{Answer}
use Rattle.dialogue.specs.declared.calls.Answer.TheVariants.{Items, Keys, Yes, Moves, Refused}
use Rattle.dialogue.specs.Runs.{RunState, CallLaw, RunLaw, call_at, answer_at}
use Rattle.dialogue.proofs.Chaining.{Chain, none, more}

-- an answer that gives something is no refusal
pub items_taken : (k : ℕ) (f : Fault) (a : Answer) → a ≡ Items k → a ≡ Refused f → ⊥
items_taken k f a e r = let z : Items k ≡ Refused f = sym e ∙ r in cc

keys_given : (l : LitSet) (f : Fault) (a : Answer) → a ≡ Keys l → a ≡ Refused f → ⊥
keys_given l f a e r = let z : Keys l ≡ Refused f = sym e ∙ r in cc

yes_given : (b : Bool) (f : Fault) (a : Answer) → a ≡ Yes b → a ≡ Refused f → ⊥
yes_given b f a e r = let z : Yes b ≡ Refused f = sym e ∙ r in cc

moves_given : (w : Written) (f : Fault) (a : Answer) → a ≡ Moves w → a ≡ Refused f → ⊥
moves_given w f a e r = let z : Moves w ≡ Refused f = sym e ∙ r in cc

-- states of one draft and one strip are one
alike : (m n : RunState) → n.draft ≡ m.draft → n.strip ≡ m.strip → n ≡ m
alike m n d s = λ i. record { draft = d i; strip = s i }

-- a refused call changes nothing
refused_same : (m n : RunState) (c : Call Word) (a : Answer) → CallLaw m c a n → (f : Fault) → a ≡ Refused f → n ≡ m
refused_same m n (Press w) a (inl (k, p, is), s) f r = absurd (items_taken k f a is r)
refused_same m n (Press w) a (inr (h, p, is), s) f r = alike m n p.same s
refused_same m n RubOut a (inl (k, p, is), s) f r = absurd (items_taken k f a is r)
refused_same m n RubOut a (inr (h, p, is), s) f r = alike m n p.same s
refused_same m n Lit a ((l, lit, is), same) f r = same
refused_same m n Whole a (is, same) f r = same
refused_same m n Reading a (inl (w, p, is), d) f r = absurd (moves_given w f a is r)
refused_same m n Reading a (inr (h, p, is), d) f r = alike m n d p.1

-- a call leaves the book, the number of places and all past them
over_too : (d e : DraftState) → e ≡ d → SameChart d e
over_too d e same = record { book = ap (λ (x : DraftState). x.book) same; long = ap (λ (x : DraftState). length x.places) same; beyond = ap (λ (x : DraftState). x.beyond) same }

same_chart : (m n : RunState) (c : Call Word) (a : Answer) → CallLaw m c a n → SameChart m.draft n.draft
same_chart m n (Press w) a (inl (k, p, is), s) = p.same
same_chart m n (Press w) a (inr (h, p, is), s) = over_too m.draft n.draft p.same
same_chart m n RubOut a (inl (k, p, is), s) = p.same
same_chart m n RubOut a (inr (h, p, is), s) = over_too m.draft n.draft p.same
same_chart m n Lit a (lit, same) = over_too m.draft n.draft (ap (λ (x : RunState). x.draft) same)
same_chart m n Whole a (is, same) = over_too m.draft n.draft (ap (λ (x : RunState). x.draft) same)
same_chart m n Reading a (read, d) = over_too m.draft n.draft d

further : (c d e : DraftState) → SameChart c d → SameChart d e → SameChart c e
further c d e p q = record { book = q.book ∙ p.book; long = q.long ∙ p.long; beyond = q.beyond ∙ p.beyond }

-- one state, and then others
abbrev then : RunState → (ℕ → RunState) → ℕ → RunState
then x next zero = x
then x next (suc k) = next k

-- the law of calls from any state to a later one, of a draft over a chart that was lent so
record Ran (first : DraftState) (start : RunState) (calls : List (Call Word)) (answers : List Answer) (end : RunState) : Type 0 where
  state : ℕ → RunState
  answered : length answers ≡ length calls
  begins : state 0 ≡ start
  shows : (k : ℕ) → k ≤ length calls → IsLawful (state k).draft
  same : (k : ℕ) → k ≤ length calls → SameChart first (state k).draft
  call : (k : ℕ) → k < length calls → CallLaw (state k) (call_at calls k) (answer_at answers k) (state (suc k))
  ends : state (length calls) ≡ end

module _ (first : DraftState) where
  ran_none : (m : RunState) → IsLawful m.draft → SameChart first m.draft → Ran first m [] [] m
  ran_none m shows same = record {
    state = λ k. m;
    answered = refl;
    begins = refl;
    shows = λ k l. shows;
    same = λ k l. same;
    call = λ k l. absurd (omega arith);
    ends = refl;
  }

  module _ (m n : RunState) (c : Call Word) (a : Answer) (calls : List (Call Word)) (answers : List Answer) (end : RunState) (shows : IsLawful m.draft) (same : SameChart first m.draft) (law : CallLaw m c a n) (rest : Ran first n calls answers end) where
    abbrev states : ℕ → RunState
    states = then m rest.state

    shows_each : (k : ℕ) → k ≤ length (c ∷ calls) → IsLawful (states k).draft
    shows_each zero l = shows
    shows_each (suc k) l = rest.shows k (omega (arith, l))

    same_each : (k : ℕ) → k ≤ length (c ∷ calls) → SameChart first (states k).draft
    same_each zero l = same
    same_each (suc k) l = rest.same k (omega (arith, l))

    call_each : (k : ℕ) → k < length (c ∷ calls) → CallLaw (states k) (call_at (c ∷ calls) k) (answer_at (a ∷ answers) k) (states (suc k))
    call_each zero l = subst (CallLaw m c a) (sym rest.begins) law
    call_each (suc k) l = rest.call k (omega (arith, l))

    ran_more : Ran first m (c ∷ calls) (a ∷ answers) end
    ran_more = record {
      state = states;
      answered = ap suc rest.answered;
      begins = refl;
      shows = shows_each;
      same = same_each;
      call = call_each;
      ends = rest.ends;
    }

  ran : (m n : RunState) (calls : List (Call Word)) (answers : List Answer) → IsLawful m.draft → SameChart first m.draft → Chain m calls answers n → Ran first m calls answers n
  ran _ _ _ _ shows same (none m) = ran_none m shows same
  ran _ _ _ _ shows same (more m n o c a calls answers law seen rest) =
      ran_more m n c a calls answers o shows same law (ran n o calls answers seen (further first m.draft n.draft same (same_chart m n c a law)) rest)

-- on a new draft
pub law_kept : (book : SoundBook) (chart : List Item) (first : RunState) (calls : List (Call Word)) (answers : List Answer) (last : RunState) (chart_left : List Item) → IsNew book chart first.draft → IsLawful first.draft
    → Chain first calls answers last → last.draft.places ++ last.draft.beyond ≡ chart_left → RunLaw book chart first.strip calls answers chart_left last.strip
law_kept book chart first calls answers last chart_left new lawful chain back =
    let r = ran first.draft first last calls answers lawful (over_too first.draft first.draft refl) chain in
    record {
      state = r.state;
      answered = r.answered;
      first = subst (λ (m : RunState). IsNew book chart m.draft) (sym r.begins) new;
      first_strip = ap (λ (m : RunState). m.strip) r.begins;
      lawful = r.shows;
      same = λ k l. subst (λ (m : RunState). SameChart m.draft (r.state k).draft) (sym r.begins) (r.same k l);
      call = r.call;
      refused = λ k f l. refused_same (r.state k) (r.state (suc k)) (call_at calls k) (answer_at answers k) (r.call k l) f;
      last = ap (λ (m : RunState). m.draft.places ++ m.draft.beyond) r.ends ∙ back;
      last_strip = ap (λ (m : RunState). m.strip) r.ends;
    }

-- Calls made one after another, and a further one behind them.
use Rattle.std.proofs.Common.{◌≡◌, ℕ, ◌+◌, ◌<◌, Bool, List, [], ◌∷◌, ◌++◌, length, get_or, set, take, sym, ap, ◌∙◌, subst, arith, get_or-set_same}
use Rattle.std.proofs.Math.ListN.{get_or-map}
use Rattle.std.proofs.lemmas.List.{length-set, map-set, map_more, set-get_or, take-set}
use Rattle.language.specs.Words.{Word}
use Rattle.draft.specs.Law.{IsLawful}
use Rattle.dialogue.specs.declared.calls.Call.{Call}
use Rattle.dialogue.specs.declared.calls.Answer.{Answer}
use Rattle.dialogue.specs.declared.calls.Exchange.{Exchange}
use Rattle.dialogue.specs.Calls.{call_of, calls_in, calls_as_sets, answers_in}
use Rattle.dialogue.specs.Runs.{RunState, CallLaw}

-- calls made one after another
pub data Chain : RunState → List (Call Word) → List Answer → RunState → Type 0 where
  none : (m : RunState) → Chain m [] [] m
  more : (m n o : RunState) (c : Call Word) (a : Answer) (calls : List (Call Word)) (answers : List Answer) → CallLaw m c a n → IsLawful n.draft → Chain n calls answers o → Chain m (c ∷ calls) (a ∷ answers) o

pub chain_last : (m n o : RunState) (calls : List (Call Word)) (answers : List Answer) (c : Call Word) (a : Answer) → Chain m calls answers n → CallLaw n c a o → IsLawful o.draft → Chain m (calls ++ (c ∷ [])) (answers ++ (a ∷ [])) o
chain_last _ _ o _ _ c a (none m) law shows = more m o o c a [] [] law shows (none o)
chain_last _ _ o _ _ c a (more m n e d b calls answers one seen rest) law shows = more m n o d b (calls ++ (c ∷ [])) (answers ++ (a ∷ [])) one seen (chain_last n e o calls answers c a rest law shows)

-- an exchange is answered: the calls stay, one more of them is made, and one more answer is given
module _ {W : Type 0} (tells : W → ℕ → Bool) (old now : List (Exchange W)) (k : ℕ) (x : Exchange W) (a : Answer) (inside : k < length old) (long : length now ≡ length old) (same : calls_in now ≡ calls_in old) where
  abbrev answered : List (Exchange W)
  answered = set now k (record { call = (get_or now k x).call; answer = a })

  pub asked_too : calls_in answered ≡ calls_in old
  asked_too =
      map-set (λ (e : Exchange W). e.call) now k _
      ∙ (ap (set (calls_in now) k) (sym (get_or-map (λ (e : Exchange W). e.call) now k x))
      ∙ (set-get_or (calls_in now) k x.call ∙ same))

  one_answer : answers_in (take (k + 1) answered) ≡ answers_in (take k now) ++ (a ∷ [])
  one_answer =
      map_more (λ (e : Exchange W). e.answer) answered k x (omega (arith, inside, long, length-set now k (record { call = (get_or now k x).call; answer = a })))
      ∙ (ap (λ (es : List (Exchange W)). answers_in es ++ ((get_or answered k x).answer ∷ [])) (take-set now k _)
      ∙ ap (λ (e : Exchange W). answers_in (take k now) ++ (e.answer ∷ [])) (get_or-set_same now k _ x (omega (arith, inside, long))))

  one_call : calls_as_sets tells (take (k + 1) old) ≡ calls_as_sets tells (take k old) ++ (call_of tells (get_or now k x).call ∷ [])
  one_call =
      map_more (λ (e : Exchange W). call_of tells e.call) old k x inside
      ∙ ap (λ c. calls_as_sets tells (take k old) ++ (call_of tells c ∷ []))
      (sym (get_or-map (λ (e : Exchange W). e.call) old k x) ∙ (ap (λ cs. get_or cs k x.call) (sym same) ∙ get_or-map (λ (e : Exchange W). e.call) now k x))

  pub chain_more : (m n o : RunState) → Chain m (calls_as_sets tells (take k old)) (answers_in (take k now)) n → CallLaw n (call_of tells (get_or now k x).call) a o → IsLawful o.draft
      → Chain m (calls_as_sets tells (take (k + 1) old)) (answers_in (take (k + 1) answered)) o
  chain_more m n o chain law shows =
      subst (λ cs. Chain m cs (answers_in (take (k + 1) answered)) o) (sym one_call)
      (subst (λ said. Chain m (calls_as_sets tells (take k old) ++ (call_of tells (get_or now k x).call ∷ [])) said o) (sym one_answer)
      (chain_last m n o _ _ _ _ chain law shows))

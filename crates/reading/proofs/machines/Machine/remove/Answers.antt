use Rattle.std.proofs.Common.{rules, ◌∷◌, ap, ◌∙◌, arith}
use Rattle.std.proofs.lemmas.Option.{MatchOption-at_none}
use Rattle.reading.specs.Machines.{not_allowed, grammar_of, first_of}
use Rattle.reading.specs.Stacks.{stacked}
use Rattle.reading.proofs.Moving.{remove_none, nothing, end_top, other}
use Rattle.reading.proofs.machines.Machine.remove.Goals as goal

pub returns-in_default-clause-moved : goal.returns-in_default-clause-moved
returns-in_default-clause-moved g c room ls =
    let m = c.args.self.now in
    not_allowed (remove_none (grammar_of m) (first_of g.W.Word.tells m) (stacked c.args.second.now) ls (end_top c.in_default.ensures.top.0 (c.in_default.ensures.top.1 ∙ ap (λ x. x ∷ c.in_default.ensures.top.0) (omega arith))))

pub returns-in_default-2-clause-moved : goal.returns-in_default-2-clause-moved
returns-in_default-2-clause-moved g c room ls =
    let m = c.args.self.now in
    not_allowed (remove_none (grammar_of m) (first_of g.W.Word.tells m) (stacked c.args.second.now) ls (other _ _ c.in-Some-1-to-255.ensures.top.1 (search (rules, arith))))

pub returns-in_default-3-clause-moved : goal.returns-in_default-3-clause-moved
returns-in_default-3-clause-moved g c room ls =
    let m = c.args.self.now in
    not_allowed (remove_none (grammar_of m) (first_of g.W.Word.tells m) (stacked c.args.second.now) ls (nothing (MatchOption-at_none _ _ c.in_default.is c.top.ensures.none)))

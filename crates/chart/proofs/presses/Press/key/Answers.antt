use Rattle.std.proofs.Common.{sym, ◌∙◌, ap}
use Rattle.rulebook.specs.Sets.{has}
use Rattle.chart.proofs.Following.{key_spans}
use Rattle.chart.proofs.presses.Press.key.Goals as goal

pub span-requires-clause-spans : goal.span-requires-clause-spans
span-requires-clause-spans c = key_spans _ _ c.requires.ready _ c.requires.key (sym (c.if-not-contains.ensures ∙ ap (λ x. has x c.args.key) c.keys.ensures))

-- What the standard stack states and answers.
use Rattle.std.specs.Prelude.{true}
use Rattle.drawing.specs.declared.Statements.{Statements}
use Rattle.drawing.specs.Drawings.{Network}
use Rattle.drawing.specs.Answers.{Answer}
use Rattle.blocking.specs.Model.{dinic_answer}
use Rattle.reductions.specs.Terminals.{terminals_below, terminals_above}
use Rattle.reductions.specs.Links.{links_below, links_above}
use Rattle.reductions.specs.Limits.{limits_below, limits_above}
use Rattle.reductions.specs.LowerBounds.{lowers_first, lowers_above}

-- yes to all four features; 61 points, 163 runs and 100,000,000 units
abbrev pub standard_statements : Statements
standard_statements = record { lowers = true; links = true; limits = true; terminals = true; points = 61; runs = 163; units = 100000000 }

-- each layer's answers over the answers of the solver below
abbrev pub over_lowers : (Network → Answer) → Network → Answer
over_lowers below d = lowers_above d (below (lowers_first d)) below

abbrev pub over_limits : (Network → Answer) → Network → Answer
over_limits below d = limits_above d (below (limits_below d))

abbrev pub over_links : (Network → Answer) → Network → Answer
over_links below d = links_above d (below (links_below d))

abbrev pub over_terminals : (Network → Answer) → Network → Answer
over_terminals below d = terminals_above d (below (terminals_below d))

-- the answers of the standard stack over Dinic's method
unfoldable pub standard_answer : Network → Answer
standard_answer d = over_terminals (over_links (over_limits (over_lowers dinic_answer))) d

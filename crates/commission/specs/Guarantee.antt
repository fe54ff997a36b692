-- The whole guarantee, as it is owed with every commission. Assumes nothing.
use Rattle.std.specs.Prelude.{ℕ, List, [], take, is_ok, IfOk, vec_items, Decides}
use Rattle.automaton.specs.Limits.{Handed, dfa}
use Rattle.table.specs.Acceptance.{Acceptable, Checked}
use Rattle.builder.specs.Build.{BuildAnswer, ShortestImage}
use Rattle.commission.specs.declared.words.Call.{Call}
use Rattle.commission.specs.declared.words.Report.{Report}
use Rattle.commission.specs.Journeys.{Ran}

-- the guarantee for an automaton, a vendor's image of it, working memory and an output before and after, a card of this capacity and any calls
pub record Guarantee (a : Handed) (vendor work work' out out' : List ℕ) (capacity : ℕ) (calls : List Call) (r : Report) : Type 0 where
  -- check accepts exactly when the acceptance rule holds of the automaton and the vendor's image
  pub exact : Decides (is_ok r.vendor) (Acceptable a vendor)
  -- and else declines in the first case that applies, with its values
  pub checked : Checked a vendor r.vendor
  -- build declines in its cases only, and else writes an image by the building rules
  pub built : BuildAnswer a work work' out out' r.built
  -- check accepts every image that build made, with its automaton
  pub accepted : IfOk r.built (λ size. Acceptable a (take size out'))
  -- for each state of a built image, the entries with its shadow are a prefix list that meets the byte rule, and every other such list has at least as many words
  pub shortest : IfOk r.built (λ size. ShortestImage (dfa a) (take size out'))
  -- each answer to a call is the journey book's, all marks are the loaded automaton's own, and no feed is told 7: over the whole run, or for want of memory over its first calls
  pub journey : Ran capacity calls [] (vec_items r.answers) (is_ok r.ended)

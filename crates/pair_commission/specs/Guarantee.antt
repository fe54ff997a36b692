-- The whole guarantee for two bytes in one search, as it is owed with every commission. Assumes nothing.
use Rattle.std.specs.Prelude.{◌≡◌, ℕ, List, [], length, take, is_ok, IfOk, vec_items, Decides}
use Rattle.automaton.specs.Limits.{dfa}
use Rattle.image.specs.Format.{decode}
use Rattle.table.specs.Acceptance as one
use Rattle.builder.specs.Build as one_build
use Rattle.pair_image.specs.Format as pair
use Rattle.pair_table.specs.Acceptance as two
use Rattle.pair_builder.specs.Build as two_build
use Rattle.pair_scanner.specs.Book.{SameCodes}
use Rattle.pair_commission.specs.declared.words.Call.{Call}
use Rattle.pair_commission.specs.declared.words.Filing.{Filing}
use Rattle.pair_commission.specs.declared.words.Report.{Report}
use Rattle.pair_commission.specs.Laws.{EveryChainIsLawful}
use Rattle.pair_commission.specs.Runs.{filed, Ran}

-- the guarantee for what a vendor files, working memory and an output for each image before and after, cards of these capacities, and any calls
pub record Guarantee (vendor : Filing) (work work' : List ℕ) (two_out two_out' one_out one_out' : List ℕ) (pair_capacity capacity : ℕ) (calls : List Call) (r : Report) : Type 0 where
  -- each check accepts exactly when its acceptance rule holds of the automaton and the vendor's image
  pub two_exact : Decides (is_ok r.two_vendor) (two.Acceptable (filed vendor) (vec_items vendor.two))
  pub one_exact : Decides (is_ok r.one_vendor) (one.Acceptable (filed vendor) (vec_items vendor.one))
  -- and else declines in the first case that applies, with its values
  pub two_checked : two.Checked (filed vendor) (vec_items vendor.two) r.two_vendor
  pub one_checked : one.Checked (filed vendor) (vec_items vendor.one) r.one_vendor
  -- each build declines in its cases only, and else writes an image by the building rules; the second finds the working memory as the first left it
  pub between : List ℕ
  pub same_room : length between ≡ length work
  pub two_built : two_build.BuildAnswer (filed vendor) work between two_out two_out' r.two_built
  pub one_built : one_build.BuildAnswer (filed vendor) between work' one_out one_out' r.one_built
  -- its check accepts every image that it made
  pub two_accepted : IfOk r.two_built (λ n. two.Acceptable (filed vendor) (take n two_out'))
  pub one_accepted : IfOk r.one_built (λ n. one.Acceptable (filed vendor) (take n one_out'))
  -- for each state of a built image, the entries with its shadow are those of a shortest prefix list, before unrolling
  pub two_shortest : IfOk r.two_built (λ n. two_build.ShortestImage (dfa (filed vendor)) (take n two_out'))
  pub one_shortest : IfOk r.one_built (λ n. one_build.ShortestImage (dfa (filed vendor)) (take n one_out'))
  -- two images that were built have the same code width and the same codes
  pub agree : IfOk r.two_built (λ n. IfOk r.one_built (λ m. SameCodes (pair.decode (take n two_out')) (decode (take m one_out'))))
  -- over the run, or for want of memory over its first calls, each reply is the journey book's, all marks are the loaded automaton's own, no feed is told 7, and the searches are few
  pub journey : Ran pair_capacity capacity calls [] (vec_items r.answers) (is_ok r.ended)
  -- and so over every series of calls in which each is as its own clause says and finds both cards as the one before left them
  pub every : EveryChainIsLawful

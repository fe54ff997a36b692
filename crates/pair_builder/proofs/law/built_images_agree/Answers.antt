use Rattle.std.proofs.Common.{sym, ap, ◌∙◌}
use Rattle.image.specs.Format.{Parts as OneParts}
use Rattle.pair_image.specs.Format.{Parts}
use Rattle.pair_builder.proofs.law.built_images_agree.Goals as goal

pub returns : goal.returns
returns c = λ a p q two one. (
  ap (λ (x : Parts). x.width) two.over ∙ sym (ap (λ (x : OneParts). x.width) one.over),
  ap (λ (x : Parts). x.codes) two.over ∙ sym (ap (λ (x : OneParts). x.codes) one.over),
)

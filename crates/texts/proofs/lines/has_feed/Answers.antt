-- The fold joins what is found at each byte.
use Rattle.std.proofs.Common.{rules, ◌≡◌, subst, refl}
use Rattle.std.proofs.lemmas.Fn.{fold_over, slice_gives, fronts}
use Rattle.texts.specs.Inner.{has_feed}
use Rattle.texts.proofs.Scans.{has_more}
use Rattle.texts.proofs.lines.has_feed.Goals as goal

pub returns : goal.returns
unfolding has_feed
returns c = subst (λ l. c.fold.result ≡ has_feed l) c.iter.ensures.rest
    (fold_over fronts (λ y. y.now) _ (λ ys a. a ≡ has_feed ys) _ (λ ys a x b f' j k. let more = has_more ys x.now in search rules)
    _ _ _ _ (slice_gives c.iter.result) refl c.fold.ensures.ran)

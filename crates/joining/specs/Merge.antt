-- The chunks and the dangling clusters of a history, each by low end, merged by low end (document 01, "FZF").
-- Assumes nothing.
use Rattle.std.specs.Prelude.{cond, List, [], ◌∷◌, map}
use Rattle.history.specs.declared.Op.{Op}
use Rattle.methods.specs.Fzf.{Run, Item, chunk, dangling, item_first}

module _ (H : List Op) where
  -- the dangling clusters that come before a chunk, the chunk, and then what is made of the others
  unfoldable pub weave : Run → (List Op → List Item) → List Op → List Item
  weave r k [] = chunk r ∷ k []
  weave r k (b ∷ bs) = cond (item_first H (chunk r) (dangling b)) (chunk r ∷ k (b ∷ bs)) (dangling b ∷ weave r k bs)

  unfoldable pub merge : List Run → List Op → List Item
  merge [] bs = map dangling bs
  merge (r ∷ rs) bs = weave r (merge rs) bs

-- Facts about a tree d whose root is a branch.
use Rattle.std.proofs.Common.{◌≡◌, Option, Some, Box, sym, ap, ◌∙◌}
use Rattle.std.specs.declared.alloc.Global.{Global}
use Rattle.weight_tree.specs.ItemsAndHeight.{ItemsAndHeight}
use Rattle.weight_tree.specs.Tree.{branch_items, items_and_height}
use Rattle.weight_tree.specs.declared.tree.Branch.{Branch}

module _ {T : Type 0} (root : Option (Box (Branch T) Global)) (b : Box (Branch T) Global) (d : ItemsAndHeight T) where
  pub items_at : items_and_height root ≡ d → root ≡ Some b → d.items ≡ branch_items b.value
  items_at view_is is = ap (λ e. e.items) (sym view_is ∙ ap items_and_height is)

  pub height_at : items_and_height root ≡ d → root ≡ Some b → d.height ≡ b.value.height
  height_at view_is is = ap (λ e. e.height) (sym view_is ∙ ap items_and_height is)

-- The page that says on how many machines an edit is kept once it is answered.
use Rattle.std.specs.Prelude.{◌≡◌, ℕ, List, codes}
use Rattle.web_wire.specs.declared.kept.Machines.{Machines}
use Rattle.web_wire.specs.declared.kept.Machines.TheVariants as on
use Rattle.web_wire.specs.declared.page.Page.{Page}

-- the JSON that says on how many machines
abbrev pub kept_text : Machines → List ℕ
kept_text on.Zero = codes "{\"machines\":0}"
kept_text on.One = codes "{\"machines\":1}"
kept_text on.Two = codes "{\"machines\":2}"

-- its entity tag
abbrev pub kept_tag : Machines → List ℕ
kept_tag on.Zero = codes "\"0\""
kept_tag on.One = codes "\"1\""
kept_tag on.Two = codes "\"2\""

-- a page says at `/kept` on how many machines, and no copy of it is to be kept
pub record IsKept (machines : Machines) (page : Page) : Type 0 where
  pub path : page.path.now ≡ codes "/kept"
  pub kind : page.kind.now ≡ codes "application/json"
  pub cache : page.cache.now ≡ codes "no-store"
  pub tag : page.tag.now ≡ kept_tag machines
  pub text : page.text.now ≡ kept_text machines

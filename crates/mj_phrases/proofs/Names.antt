-- Equal names by their bytes.
use Rattle.std.specs.Prelude.{◌≡◌, true}
use Rattle.std.proofs.lemmas.Slice.Eq.{bytes_eq-Decides}
use Rattle.mj_tree.specs.Trees.{Name}
use Rattle.mj_phrases.specs.Types.{is_same}

pub same_from : (x y : Name) → is_same x y ≡ true → x ≡ y
same_from x y e = (bytes_eq-Decides x y).0 e

pub from_same : (x y : Name) → x ≡ y → is_same x y ≡ true
from_same x y e = (bytes_eq-Decides x y).1 e

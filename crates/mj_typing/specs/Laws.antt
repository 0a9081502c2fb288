-- Laws of the definitions.
use Rattle.std.specs.Prelude.{◌≡◌, ◌↔◌, Contains}
use Rattle.mj_tree.specs.Trees.{Name, Method, Main}
use Rattle.mj_phrases.specs.declared.verdict.Mistake.{Mistake}
use Rattle.mj_phrases.specs.Inquiries.{World, conclusion}
use Rattle.mj_typing.specs.Bodies.{MethodFault, MainFault, NamesFit, method_faults, main_faults, method_check, main_check}

-- the lists are the mistakes, and the checks that ask conclude with them
pub record BodyLaws : Type 0 where
  pub method : (w : World) (class : Name) (m : Method) → NamesFit m → (x : Mistake)
      → Contains (method_faults w class m) x ↔ MethodFault w class m x
  pub main : (w : World) (m : Main) (x : Mistake) → Contains (main_faults w m) x ↔ MainFault w m x
  pub method_checked : (w : World) (class : Name) (m : Method)
      → conclusion w (method_check class m) ≡ method_faults w class m
  pub main_checked : (w : World) (m : Main) → conclusion w (main_check m) ≡ main_faults w m

-- What contracts see of a body.
use Rattle.std.specs.Prelude.{List}
use Rattle.mj_tree.specs.declared.tree.Ty.{Ty}
use Rattle.mj_tree.specs.declared.tree.Variable.{Variable}
use Rattle.tree_bytes.specs.declared.body.MethodHead.{MethodHead}
use Rattle.mj_tree.specs.Views.{stmt_view, method_view}
use Rattle.tree_bytes.specs.declared.body.MainOrMethod.{MainOrMethod}
use Rattle.tree_bytes.specs.declared.body.MainOrMethod.TheVariants.{Main, Method}
use Rattle.tree_bytes.specs.Bodies.{BodyValue, OfMain, OfMethod}

abbrev pub body_view : MainOrMethod → BodyValue
body_view (Main statement) = OfMain (stmt_view statement)
body_view (Method tree) = OfMethod (method_view tree)

abbrev pub types_view : MethodHead → Ty × List Variable
types_view types = (types.returns, types.formals.items)

-- What contracts see of the classes and members that the code has.
use Rattle.std.specs.Prelude.{ℕ, List, map}
use Rattle.mj_tree.specs.Trees.{Name, Method}
use Rattle.mj_tree.specs.declared.tree.Field.{Field}
use Rattle.mj_tree.specs.Views.{main_view, class_view, method_view}
use Rattle.mj_members.specs.Declarations.{ClassDecl, main_decl, class_decl}
use Rattle.mj_members.specs.declared.class.AnyClassTree.{AnyClassTree}
use Rattle.mj_members.specs.declared.class.AnyClassTree.TheVariants.{Main, Plain}
use Rattle.mj_members.specs.declared.class.ClassRef.{ClassRef}
use Rattle.mj_members.specs.declared.member.FieldMember.{FieldMember}
use Rattle.mj_members.specs.declared.member.MethodMember.{MethodMember}

abbrev pub tree_view : ℕ → ℕ → AnyClassTree → ClassDecl
tree_view file number (Main m) = record (main_decl file (main_view m.now)) { number = number }
tree_view file number (Plain c) = class_decl file number (class_view c.now)

abbrev pub class_ref_view : ClassRef → ClassDecl
class_ref_view c = tree_view c.file c.number c.tree

abbrev pub classes_view : List ClassRef → List ClassDecl
classes_view cs = map class_ref_view cs

-- the owner's name and what it declares
abbrev pub field_member_view : FieldMember → Name × Field
field_member_view m = (m.owner.now, m.field.now)

abbrev pub method_member_view : MethodMember → Name × Method
method_member_view m = (m.owner.now, method_view m.method.now)

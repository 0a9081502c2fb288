-- The body that a class and a method name in a file.
use Rattle.std.specs.Prelude.{List, Option, Some, None, codes, find, option_map, option_and_then, if◌then◌else◌}
use Rattle.std.specs.Str.{bytes_eq}
use Rattle.mj_tree.specs.Trees.{Name, Method, Main, Class, File}
use Rattle.tree_bytes.specs.Bodies.{BodyValue, OfMain, OfMethod}

abbrev pub main_word : Name
main_word = codes "main"

-- the first class of a name, and the first method
abbrev pub first_class : Name → List Class → Option Class
first_class c classes = find (λ k. bytes_eq k.name c) classes

abbrev pub first_method : Name → List Method → Option Method
first_method m methods = find (λ f. bytes_eq f.name m) methods

abbrev pub method_in : Name → List Method → Option BodyValue
method_in m methods = option_map OfMethod (first_method m methods)

abbrev pub class_body : Name → Name → List Class → Option BodyValue
class_body c m classes = option_and_then (λ k. method_in m k.methods) (first_class c classes)

-- the main class has its statement for `main`, and nothing else
abbrev pub main_body : Name → Main → Option BodyValue
main_body m main = if bytes_eq m main_word then Some (OfMain main.statement) else None

-- the main class stands before the other classes
abbrev pub body_behind : Option Main → Name → Name → List Class → Option BodyValue
body_behind None c m classes = class_body c m classes
body_behind (Some main) c m classes =
    if bytes_eq main.name c then main_body m main else class_body c m classes

abbrev pub body_named : File → Name → Name → Option BodyValue
body_named f c m = body_behind f.main c m f.classes

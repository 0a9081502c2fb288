-- What a file says about a class, by its name.
use Rattle.std.specs.Prelude.{List, [], map, true, false, Option, Some, None, option_map, if◌then◌else◌}
use Rattle.std.specs.Str.{bytes_eq}
use Rattle.mj_tree.specs.Trees.{Name, Main, Class, File}
use Rattle.tree_bytes.specs.NamedBodies.{first_class}
use Rattle.result_bytes.specs.Payloads.{HeaderValue}

-- the main class extends nothing and has no members
abbrev pub main_header : HeaderValue
main_header = record { is_main = true; superclass = None; fields = []; methods = [] }

abbrev pub class_header : Class → HeaderValue
class_header c = record {
  is_main = false;
  superclass = c.superclass;
  fields = c.fields;
  methods = map (λ m. m.name) c.methods;
}

abbrev pub header_among : Name → List Class → Option HeaderValue
header_among c classes = option_map class_header (first_class c classes)

-- the main class stands before the other classes
abbrev pub header_behind : Option Main → Name → List Class → Option HeaderValue
header_behind None c classes = header_among c classes
header_behind (Some main) c classes =
    if bytes_eq main.name c then Some main_header else header_among c classes

abbrev pub header_named : Name → File → Option HeaderValue
header_named c f = header_behind f.main c f.classes

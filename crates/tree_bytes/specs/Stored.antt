-- What contracts see of the classes and files that trees keep.
use Rattle.std.specs.Prelude.{map}
use Rattle.mj_tree.specs.Trees.{File}
use Rattle.mj_tree.specs.Trees as trees
use Rattle.tree_bytes.specs.declared.stored.StoredClass.{StoredClass}
use Rattle.tree_bytes.specs.declared.stored.StoredFile.{StoredFile}

abbrev pub stored_class : StoredClass → trees.Class
stored_class c =
    record {
      name = c.name;
      superclass = c.superclass;
      fields = c.fields.items;
      methods = c.methods.items;
    }

abbrev pub stored_file : StoredFile → File
stored_file f = record { main = f.main; classes = map stored_class f.classes.items }

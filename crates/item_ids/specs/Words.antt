-- The words for kinds.
use Rattle.std.specs.Prelude.{ℕ, List, codes}
use Rattle.item_ids.specs.declared.kind.Kind.{Kind}
use Rattle.item_ids.specs.declared.kind.Kind.TheVariants.{Files, Source, Tree, Index, Header, Method, Sig, Supers, Members, CheckClass, CheckBody, Diags, Answer}

abbrev pub kind_word : Kind → List ℕ
kind_word Files = codes "Files"
kind_word Source = codes "Source"
kind_word Tree = codes "Tree"
kind_word Index = codes "Index"
kind_word Header = codes "Header"
kind_word Method = codes "Method"
kind_word Sig = codes "Sig"
kind_word Supers = codes "Supers"
kind_word Members = codes "Members"
kind_word CheckClass = codes "CheckClass"
kind_word CheckBody = codes "CheckBody"
kind_word Diags = codes "Diags"
kind_word Answer = codes "Answer"

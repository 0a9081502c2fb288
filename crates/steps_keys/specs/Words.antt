-- The words for kinds.
use Rattle.std.specs.Prelude.{ℕ, List, codes}
use Rattle.steps_keys.specs.declared.kind.Kind.{Kind}
use Rattle.steps_keys.specs.declared.kind.Kind.TheVariants.{Files, Source, Plan, Compile, Link, Answer}

abbrev pub kind_word : Kind → List ℕ
kind_word Files = codes "Files"
kind_word Source = codes "Source"
kind_word Plan = codes "Plan"
kind_word Compile = codes "Compile"
kind_word Link = codes "Link"
kind_word Answer = codes "Answer"

-- What the program says of its version.
use Rattle.std.specs.Prelude.{ℕ, List, codes}

abbrev pub text_of_version : List ℕ
text_of_version = codes "mjrg 0.1.0\nsession files: forms 1 and 2\nlanguage: profiles 1 and 2\n"

-- The words for why a file is that of no session.
use Rattle.std.specs.Prelude.{ℕ, List, ◌++◌, codes, decimal}
use Rattle.session_file.specs.declared.fault.FileFault.{FileFault}
use Rattle.session_file.specs.declared.fault.FileFault.TheVariants as file

-- its number and name, and the record and the edge at which it stands; out of memory has no words
abbrev pub fault_words : FileFault → List ℕ
fault_words file.BadMagic = codes "11.1 BadMagic"
fault_words file.Version = codes "11.2 Version"
fault_words file.Truncated = codes "11.3 Truncated"
fault_words file.BadDigest = codes "11.4 BadDigest"
fault_words (file.KeyOrder n) = codes "11.5 KeyOrder(" ++ decimal n ++ codes ")"
fault_words (file.BadEdge n i) =
    codes "11.6 BadEdge(" ++ decimal n ++ codes ", " ++ decimal i ++ codes ")"
fault_words (file.Result n) = codes "11.7 Result(" ++ decimal n ++ codes ")"
fault_words (file.InputKind n) = codes "11.8 InputKind(" ++ decimal n ++ codes ")"
fault_words file.Trailing = codes "11.9 Trailing"
fault_words file.Device = codes "11.10 Device"
fault_words (file.BadKey n) = codes "11.11 BadKey(" ++ decimal n ++ codes ")"
fault_words file.Number = codes "11.12 Number"
fault_words (file.NoPastResult n) = codes "11.13 NoPastResult(" ++ decimal n ++ codes ")"
fault_words file.OutOfMemory = codes ""

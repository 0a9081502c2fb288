-- Why a chain is refused, in words.
use Rattle.std.specs.Prelude.{ℕ, List, ◌++◌, codes, decimal}
use Rattle.audit_graph.specs.declared.fault.AuditFault.{AuditFault}
use Rattle.audit_graph.specs.declared.fault.AuditFault.TheVariants as chain
use Rattle.session_text.specs.FaultWords.{fault_words}

-- the arguments of a refusal
abbrev pub one_argument : ℕ → List ℕ
one_argument a = codes "(" ++ decimal a ++ codes ")"

abbrev pub two_arguments : ℕ → ℕ → List ℕ
two_arguments a b = codes "(" ++ decimal a ++ codes ", " ++ decimal b ++ codes ")"

abbrev pub three_arguments : ℕ → ℕ → ℕ → List ℕ
three_arguments a b c =
    codes "(" ++ decimal a ++ codes ", " ++ decimal b ++ codes ", " ++ decimal c ++ codes ")"

-- why files are no accepted chain; out of memory has no text
abbrev pub chain_words : AuditFault → List ℕ
chain_words chain.EmptyChain = codes "14.1 EmptyChain"
chain_words (chain.File k why) = codes "14.2 File(" ++ decimal k ++ codes ", " ++ fault_words why ++ codes ")"
chain_words (chain.BrokenLink k) = codes "14.3 BrokenLink" ++ one_argument k
chain_words (chain.NoFiles k) = codes "14.4 NoFiles" ++ one_argument k
chain_words (chain.MissingSource k f) = codes "14.5 MissingSource" ++ two_arguments k f
chain_words (chain.StraySource k f) = codes "14.6 StraySource" ++ two_arguments k f
chain_words (chain.GreenWithoutPast k n) = codes "14.7 GreenWithoutPast" ++ two_arguments k n
chain_words (chain.OtherEdges k n) = codes "14.8 OtherEdges" ++ two_arguments k n
chain_words (chain.GreenOverRed k n i) = codes "14.9 GreenOverRed" ++ three_arguments k n i
chain_words (chain.GreenPrint k n) = codes "14.10 GreenPrint" ++ two_arguments k n
chain_words (chain.OtherRead k n i) = codes "14.11 OtherRead" ++ three_arguments k n i
chain_words (chain.UnreadEdges k n) = codes "14.12 UnreadEdges" ++ two_arguments k n
chain_words (chain.OtherResult k n) = codes "14.13 OtherResult" ++ two_arguments k n
chain_words chain.NoAnswer = codes "14.14 NoAnswer"
chain_words (chain.GreenAcrossProfiles k n) = codes "14.17 GreenAcrossProfiles" ++ two_arguments k n
chain_words chain.SourcesDiffer = codes "14.15 SourcesDiffer"
chain_words chain.OutOfMemory = codes ""

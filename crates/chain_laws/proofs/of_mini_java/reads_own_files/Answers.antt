use Rattle.chain_laws.proofs.OwnFiles.{own_files}
use Rattle.chain_laws.proofs.of_mini_java.reads_own_files.Goals as goal

pub returns : goal.returns
returns c = own_files

-- A head and what a thread knows may go from one thread to another, and be shared.
use denote.RattleType.{RattleType}
use denote.Param.Send.{IsSend, IsSync}
use Rattle.known_list.specs.declared.naming.ListNaming as naming
use Rattle.known_list.specs.contracts.list.Head as head
use Rattle.known_list.specs.contracts.list.Known as known
use Rattle.known_list.proofs.list.Head.TheSendSync as head_crosses
use Rattle.known_list.proofs.list.Known.TheSendSync as known_crosses

module _ (J E : RattleType) (g : naming.Ghosts J.Denot) where
  pub known_send : IsSend (known.the_row J E g)
  known_send = known_crosses.the_send J E g

  pub known_sync : IsSync (known.the_row J E g)
  known_sync = known_crosses.the_sync J E g

  pub head_send : IsSend (head.the_row J E g)
  head_send = head_crosses.the_send J E g

  pub head_sync : IsSync (head.the_row J E g)
  head_sync = head_crosses.the_sync J E g

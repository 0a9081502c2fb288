-- Which index maps may go from one thread to another: those whose keys and values may.
use denote.RattleType.{RattleType}
use denote.Param.Send.{IsSend, sendable}
use Rattle.std.specs.declared.cmp.PartialEq as eq
use Rattle.std.specs.declared.hash.Hash as hash
use Rattle.std.specs.declared.hash.Hasher as hasher
use Rattle.std.specs.declared.hash.BuildHasher as builder
use Rattle.std.specs.contracts.alloc.Global as Heap
use Rattle.std.specs.contracts.impls.GlobalAllocator.TheImpl.{ghosts}
use Rattle.std.proofs.Crossing.{Vec-send}
use Rattle.indexmap.specs.contracts.columns.Columns as Columns
use Rattle.indexmap.specs.contracts.index_table.Bucket as Bucket
use Rattle.indexmap.specs.contracts.index_table.IndexTable as IndexTable
use Rattle.indexmap.specs.contracts.index_table.group.Group as Group
use Rattle.indexmap.specs.contracts.map.IndexMap as IndexMap

table_send : IsSend (IndexTable.the_field Heap.the_row ghosts).row
table_send =
    let a = Vec-send Group.the_row (search sendable depth 20) in
    let b = Vec-send Bucket.the_row (search sendable depth 20) in
    search sendable depth 20

module _ (K V : RattleType) where
  columns_send : IsSend K → IsSend V → IsSend (Columns.the_field K V Heap.the_row ghosts).row
  columns_send sk sv = let a = Vec-send K sk in let b = Vec-send V sv in search sendable depth 20

module _ (K V S T : RattleType) (e : eq.Ghosts K.Denot) (h : hash.Ghosts K.Denot) (b : builder.Ghosts S.Denot T.Denot) (w : hasher.Ghosts T.Denot) where
  pub IndexMap-send : IsSend K → IsSend V → IsSend S → IsSend (IndexMap.the_field K V S Heap.the_row T e h b w ghosts).row
  IndexMap-send sk sv ss = let a = columns_send K V sk sv in let t = table_send in search sendable depth 20

use contract.Lifetimes.{Lfts}
use denote.Param.{param}
use denote.Param.Send.{IsSend, IsSync, sendable}
use Rattle.std.proofs.Crossing.{crosses}
use Rattle.node_threads.proofs.SendAndSync.{locked_send, signals_sync}
use Rattle.node_threads.proofs.workers.fn.work_all.scope.Given as given
use Rattle.node_threads.proofs.workers.fn.work_all.scope.Lts.{arg-3-1}
use Rattle.node_threads.proofs.workers.fn.work_all.scope.Goals as goal

-- apart from the other facts at the call, which are too many for one search
worker_send : (g : given.Over) (κs : Lfts 9) → IsSync g.row.R → IsSync g.row.G
    → IsSend (param 1 (arg-3-1 g.row.C g.row.R g.row.W g.row.G g.C.laws g.R.laws g.W.laws g.G.laws g.C.RunCodes
    g.C.RunCodes-dict g.R.Threads g.R.Threads-dict g.R.Wait g.R.Wait-dict g.W.Starter g.W.Starter-dict g.G.Gate
    g.G.Gate-dict κs))
worker_send g κs runtime_sync gate_sync = search (sendable, crosses, locked_send, signals_sync) depth 20

pub spawn_scoped-requires-send-F : goal.spawn_scoped-requires-send-F
spawn_scoped-requires-send-F g c = λ κs within. worker_send g κs c.requires.1.1.1.1.2 c.requires.1.1.1.1.3

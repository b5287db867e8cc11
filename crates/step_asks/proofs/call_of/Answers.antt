-- `step_asks::call_of` meets its contract, case by case.
-- Assumes nothing.
use Rattle.step_asks.proofs.call_of.Goals as goal

pub returns-in-SyncAll : goal.returns-in-SyncAll
returns-in-SyncAll c = rw c.in-SyncAll.is c.sync_call.ensures

pub returns-in-Sync : goal.returns-in-Sync
returns-in-Sync c = rw c.in-Sync.is c.sync_call-in-Sync.ensures

pub returns-in-Arrive : goal.returns-in-Arrive
returns-in-Arrive c = rw c.in-Arrive.is c.arrive_call.ensures

pub returns-in-RedAll : goal.returns-in-RedAll
returns-in-RedAll c = rw c.in-RedAll.is c.red_call.ensures

pub returns-in-Red : goal.returns-in-Red
returns-in-Red c = rw c.in-Red.is c.red_call-in-Red.ensures

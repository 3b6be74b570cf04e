-- `staging::stages::run` meets its contract: the stages so far are those of the definition. Assumes nothing.
use Rattle.staging.specs.Inner.{StagedTo}
use Rattle.staging.proofs.stages.run.Given as goal

abbrev pub invariant-loop-before : goal.invariant-loop-before
invariant-loop-before l = StagedTo l.rules l.before l.added l.remaining l.stages

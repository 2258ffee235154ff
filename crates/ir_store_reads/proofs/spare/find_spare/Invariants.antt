use Rattle.ir_store_reads.proofs.spare.find_spare.Given as goal

abbrev pub invariant-spare : goal.invariant-spare
invariant-spare l = Unit {0}

abbrev pub decreases-spare : goal.decreases-spare
decreases-spare l = l.looks

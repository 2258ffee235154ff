use Rattle.user_patterns_claims.proofs.decode.+push_decoded.Given as goal

abbrev pub decreases-push_decoded : goal.decreases-push_decoded
decreases-push_decoded l = l.left

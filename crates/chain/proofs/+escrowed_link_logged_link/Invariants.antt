-- How many links may still be followed.
use Rattle.chain.proofs.+escrowed_link_logged_link.Given as goal

abbrev pub decreases-escrowed_link : goal.decreases-escrowed_link
decreases-escrowed_link l = l.left

abbrev pub decreases-logged_link : goal.decreases-logged_link
decreases-logged_link l = l.left

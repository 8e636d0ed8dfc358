-- Which instances decide, and which darts a walk from them reaches.
pub mod ArcsFollowed
pub mod DecidersFound
pub mod NodesOfOneOrbit
pub mod OrbitsWalked
pub mod TwoLabelOrbits

pub mod ScsTrips

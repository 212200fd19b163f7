mod ScsTrips
